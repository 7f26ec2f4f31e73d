use Rattle.std.proofs.Common.{◌≡◌, take}
use Rattle.gs_master_spec.specs.Settling.{requests_of}
use Rattle.gs_master_plan.proofs.standing.Standing.requests.Given as goal

abbrev pub invariant-loop-pending : goal.invariant-loop-pending
invariant-loop-pending l = l.requests.items ≡ requests_of (take l.pending-index l.pending-items)
