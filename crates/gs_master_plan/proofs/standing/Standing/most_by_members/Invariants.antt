use Rattle.std.proofs.Common.{◌≤◌}
use Rattle.gs_master_plan.specs.inner.Planning.{state_of}
use Rattle.gs_master_plan.proofs.Healing.{NoneBelow}
use Rattle.gs_master_plan.proofs.standing.Standing.most_by_members.Given as goal

abbrev pub invariant-loop-members : goal.invariant-loop-members
invariant-loop-members l = record {
  from : 1 ≤ l.members;
  none : NoneBelow (state_of l.self) l.members;
}
