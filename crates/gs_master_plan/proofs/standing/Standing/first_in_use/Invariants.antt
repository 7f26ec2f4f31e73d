use Rattle.std.proofs.Common.{◌≡◌, None, map}
use Rattle.gs_master_plan.specs.inner.Healing.{first_in_use}
use Rattle.gs_master_plan.specs.inner.Planning.{state_of}
use Rattle.gs_master_state.proofs.ChunkSets.{key_of}
use Rattle.gs_master_plan.proofs.standing.Standing.first_in_use.Given as goal

abbrev pub invariant-loop-chunk : goal.invariant-loop-chunk
invariant-loop-chunk l = first_in_use (state_of l.self) l.hidden (map key_of l.chunk-iterator) ≡ first_in_use (state_of l.self) None (map key_of l.initial.chunk-iterator)
