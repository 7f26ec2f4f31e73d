use Rattle.std.proofs.Common.{◌∙◌}
use Rattle.std.specs.Cmp.Lexicographic.{slice_cmp}
use Rattle.std.specs.Ordering.{nat_cmp}
use Rattle.gs_path.proofs.Front.{cmp_by_front}
use Rattle.gs_path.proofs.name.NameOrd.cmp.Goals as goal

pub returns-then-self-other : goal.returns-then-self-other
returns-then-self-other c =
    c.cmp.ensures ∙ cmp_by_front _ _ _ _ c.self.invariant c.other.invariant c.if-self-other.true ∙ (λ i. slice_cmp nat_cmp (c.self.view_is i) (c.other.view_is i))
