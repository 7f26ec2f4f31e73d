use Rattle.std.proofs.Common.{◌≡◌, ◌==◌, Bool, true, false, cond, map, Option, None, refl, sym, ap, subst, ◌∙◌, true≢false}
use Rattle.std.proofs.lemmas.Str.{IsUtf8-from_is_utf8, is_utf8-from_IsUtf8}
use Rattle.std.specs.List.{slice_split}
use Rattle.std.specs.Str.{is_utf8}
use Rattle.gs_shell_grammar.specs.Grammar.{ParsesAs, request_of, words_request}
use Rattle.gs_shell_grammar.proofs.parse.Goals as goal

-- a line that is no text asks nothing
not_text : {A : Type 0} (b : Bool) (x : Option A) → (b ≡ true → ⊥) → cond b x None ≡ None
not_text true x h = absurd (h refl)
not_text false x h = refl

text : {A : Type 0} (b : Bool) (x : Option A) → b ≡ true → x ≡ cond b x None
text true x h = refl
text false x h = absurd (true≢false (sym h))

pub returns-in_default-clause-request : goal.returns-in_default-clause-request
returns-in_default-clause-request c = not_text (is_utf8 c.args.line.now) _ (λ e. c.in_default.ensures.cases.0 (IsUtf8-from_is_utf8 _ e))

pub returns-clause-request : goal.returns-clause-request
returns-clause-request c =
    let line = c.args.line.now in
    let same = c.in-Ok.ensures.cases.0 in
    let split = c.in_ok-words.ensures in
    subst (ParsesAs request_of c.of_words.result)
    (ap (λ ws. words_request (map (λ w. w.now) ws)) c.deref.ensures.value ∙ ap words_request split ∙ ap (λ t. words_request (slice_split (λ b. b == 32) t)) same
    ∙ text (is_utf8 line) (words_request (slice_split (λ b. b == 32) line)) (is_utf8-from_IsUtf8 _ c.in-Ok.ensures.cases.1))
    c.of_words.ensures

pub returns-clause-text : goal.returns-clause-text
returns-clause-text c = λ no. absurd (true≢false (sym (is_utf8-from_IsUtf8 _ c.in-Ok.ensures.cases.1) ∙ no))

pub returns-in_err-words-clause-text : goal.returns-in_err-words-clause-text
returns-in_err-words-clause-text c = λ no. absurd (true≢false (sym (is_utf8-from_IsUtf8 _ c.in-Ok.ensures.cases.1) ∙ no))
