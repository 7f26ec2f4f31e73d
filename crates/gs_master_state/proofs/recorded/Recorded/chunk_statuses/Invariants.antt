use Rattle.std.proofs.Common.{◌≡◌, map, take}
use Rattle.gs_master_spec.specs.Calls.{chunk_status}
use Rattle.gs_master_state.specs.inner.Recorded.{durable_of}
use Rattle.gs_master_state.proofs.recorded.Recorded.chunk_statuses.Given as goal

abbrev pub invariant-loop-chunk : goal.invariant-loop-chunk
invariant-loop-chunk l = l.told.items ≡ map (chunk_status (durable_of l.self)) (take l.chunk-index l.chunks)
