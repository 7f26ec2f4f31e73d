use Rattle.std.proofs.Common.{ℕ, List, Bor, map, arith, Some, None, subst, sym, ◌∙◌}
use Rattle.gs_keep_head.specs.Head.{HeadAs, bytes_of, sizes_of, words_head}
use Rattle.gs_keep_head.proofs.Behind.{head_formed, head_other, head_short, head_unsized}
use Rattle.gs_keep_head.proofs.head_of.Goals as goal

pub returns-then-words-lt-SIZE_WORDS : goal.returns-then-words-lt-SIZE_WORDS
returns-then-words-lt-SIZE_WORDS c = head_short c.args.words.now c.if-words-lt-SIZE_WORDS.true

pub returns-in_err-config : goal.returns-in_err-config
returns-in_err-config c = subst (λ o. HeadAs o (words_head (map (λ (w : Bor (List ℕ)). w.now) c.args.words.now))) (sym c.from_residual.ensures) (head_unsized c.args.words.now c.in_err-config.ensures)

pub returns-in_err-name : goal.returns-in_err-name
returns-in_err-name c = subst (λ o. HeadAs o (words_head (map (λ (w : Bor (List ℕ)). w.now) c.args.words.now))) (sym c.from_residual-in_err-name.ensures) (head_other c.args.words.now c.in_err-name.ensures)

pub returns-in_err-form : goal.returns-in_err-form
returns-in_err-form c =
    subst (λ o. HeadAs o (words_head (map (λ (w : Bor (List ℕ)). w.now) c.args.words.now))) (sym c.from_residual-in_err-form.ensures)
    (head_formed c.args.words.now _ (sizes_of c.in_ok-config.config) (bytes_of c.in_ok-name.field-0.name, c.in_ok-name.field-0.before) None (omega (arith, c.if-words-lt-SIZE_WORDS.false))
    c.in_ok-config.ensures c.in_ok-name.ensures (sym c.in_err-form.was ∙ c.form_of.ensures))

pub returns : goal.returns
returns c =
    head_formed c.args.words.now _ (sizes_of c.in_ok-config.config) (bytes_of c.in_ok-name.field-0.name, c.in_ok-name.field-0.before) (Some c.in_ok-form.form) (omega (arith, c.if-words-lt-SIZE_WORDS.false))
    c.in_ok-config.ensures c.in_ok-name.ensures (sym c.in_ok-form.was ∙ c.form_of.ensures)
