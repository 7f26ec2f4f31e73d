use Rattle.std.proofs.Common.{◌≡◌, ◌++◌, drop}
use Rattle.gs_master_spec.specs.Hearing.{drops}
use Rattle.gs_master_plan.specs.inner.Planning.{state_of}
use Rattle.gs_master_plan.proofs.standing.Standing.drops.Given as goal

abbrev pub invariant-loop-replica : goal.invariant-loop-replica
invariant-loop-replica l = l.sent.items ++ drops (state_of l.self) l.server (drop l.replica-index l.reported) ≡ drops (state_of l.self) l.server l.reported
