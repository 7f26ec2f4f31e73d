use Rattle.std.proofs.Common.{◌≡◌, take, filter}
use Rattle.gs_master_spec.specs.Handling.{awaits_first}
use Rattle.gs_master_plan.specs.inner.Planning.{state_of}
use Rattle.gs_master_plan.proofs.standing.Standing.awaiting.Given as goal

abbrev pub invariant-loop-chunk : goal.invariant-loop-chunk
invariant-loop-chunk l = l.chunks.items ≡ filter (awaits_first (state_of l.self)) (take l.chunk-index (state_of l.self).volatile.unplaced)
