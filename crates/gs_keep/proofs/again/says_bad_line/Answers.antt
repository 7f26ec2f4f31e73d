use Rattle.std.proofs.Common.{◌∙◌, true≢false, List, ℕ, ap, sym, codes, nat_eq}
use Rattle.std.specs.Cmp.Lexicographic.{pointwise}
use Rattle.gs_keep.proofs.Lines.{bad_line_is}
use Rattle.gs_keep.proofs.again.says_bad_line.Goals as goal

pub returns-in-Ok : goal.returns-in-Ok
returns-in-Ok c = rw c.in-Ok.is (λ other same.
    true≢false (sym (c.eq.ensures ∙ ap (λ (l : List ℕ). pointwise nat_eq l (codes "refused 34 BadLine")) (c.as_str.ensures.value ∙ same ∙ sym bad_line_is)) ∙ other))
