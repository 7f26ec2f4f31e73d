use Rattle.std.proofs.Common.{◌≡◌, ◌++◌, filter, map}
use Rattle.gs_master_plan.specs.inner.Planning.{state_of}
use Rattle.gs_master_state.specs.inner.Surveying.{has_unquiet}
use Rattle.gs_master_state.proofs.ChunkSets.{key_of}
use Rattle.gs_master_plan.proofs.standing.Standing.and_moving.Given as goal

abbrev pub invariant-loop-chunk : goal.invariant-loop-chunk
invariant-loop-chunk l =
    l.unquiet.items ++ filter (has_unquiet (state_of l.self)) (map key_of l.chunk-iterator) ≡ l.initial.unquiet.items ++ filter (has_unquiet (state_of l.self)) (map key_of l.initial.chunk-iterator)
