use Rattle.std.proofs.Common.{◌≡◌, ◌||◌, filter, take}
use Rattle.gs_master_plan.specs.inner.Planning.{state_of}
use Rattle.gs_master_spec.specs.Settling.{is_copied_by}
use Rattle.gs_master_spec.specs.Volatile.{is_call}
use Rattle.gs_master_spec.specs.declared.pending.Pending.{Pending}
use Rattle.gs_master_plan.proofs.standing.Standing.concerned.Given as goal

abbrev pub invariant-loop-one : goal.invariant-loop-one
invariant-loop-one l = l.calls.items ≡ filter (λ (p : Pending). is_call p.req l.call || is_copied_by (state_of l.self) l.chunk p.waits) (take l.one-index l.one-items)
