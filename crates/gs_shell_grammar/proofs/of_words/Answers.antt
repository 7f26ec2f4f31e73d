use Rattle.std.proofs.Common.{◌≡◌, Bool, true, false, cond, map, Option, None, refl, sym, ◌∙◌, true≢false}
use Rattle.std.proofs.lemmas.List.Folds.{list_all-map}
use Rattle.std.specs.List.{list_all}
use Rattle.gs_shell_grammar.specs.Grammar.{is_word, form_request}
use Rattle.gs_shell_grammar.proofs.of_words.Goals as goal

no_words : {A : Type 0} (b : Bool) (x : Option A) → b ≡ false → cond b x None ≡ None
no_words true x h = absurd (true≢false h)
no_words false x h = refl

pub returns-then-not-are_words : goal.returns-then-not-are_words
returns-then-not-are_words c =
    let words = c.args.words.now in
    no_words (list_all is_word (map (λ w. w.now) words)) (form_request (map (λ w. w.now) words))
    (list_all-map is_word (λ w. w.now) words ∙ sym c.are_words.ensures ∙ c.if-not-are_words.true)
