use Rattle.std.proofs.Common.{◌≡◌, ◌++◌, drop, filter}
use Rattle.gs_master_spec.specs.Settling.{requests_of}
use Rattle.gs_master_spec.specs.Working.{waits_for_any}
use Rattle.gs_master_spec.specs.declared.pending.Pending.{Pending}
use Rattle.gs_master_plan.proofs.standing.Standing.waiting_for.Given as goal

abbrev pub invariant-loop-pending : goal.invariant-loop-pending
invariant-loop-pending l =
    l.requests.items ++ requests_of (filter (λ (p : Pending). waits_for_any l.chunks p.waits) (drop l.pending-index l.pending-items)) ≡ requests_of (filter (λ (p : Pending). waits_for_any l.chunks p.waits) l.pending-items)
