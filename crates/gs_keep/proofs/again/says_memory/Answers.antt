use Rattle.std.proofs.Common.{◌∙◌, true≢false, List, ℕ, ap, sym, codes, nat_eq}
use Rattle.std.specs.Cmp.Lexicographic.{pointwise}
use Rattle.gs_keep.proofs.Lines.{memory_is}
use Rattle.gs_keep.proofs.again.says_memory.Goals as goal

pub returns-in-Ok-clause-ok : goal.returns-in-Ok-clause-ok
returns-in-Ok-clause-ok c = rw c.in-Ok.is (λ other same.
    true≢false (sym (c.eq.ensures ∙ ap (λ (l : List ℕ). pointwise nat_eq l (codes "refused 33 Memory")) (c.as_str.ensures.value ∙ same ∙ sym memory_is)) ∙ other))
