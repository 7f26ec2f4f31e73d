use Rattle.std.proofs.Common.{◌≡◌, ◌++◌, filter, map}
use Rattle.gs_master_plan.specs.inner.Planning.{state_of}
use Rattle.gs_master_state.specs.inner.Surveying.{is_lost}
use Rattle.gs_master_state.proofs.ChunkSets.{key_of}
use Rattle.gs_master_plan.proofs.standing.Standing.lost_of.Given as goal

abbrev pub invariant-loop-chunk : goal.invariant-loop-chunk
invariant-loop-chunk l =
    l.lost.items ++ filter (is_lost (state_of l.self) l.server l.reported) (map key_of l.chunk-iterator) ≡ filter (is_lost (state_of l.self) l.server l.reported) (map key_of l.initial.chunk-iterator)
