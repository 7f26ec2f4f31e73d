use Rattle.std.proofs.Common.{◌≡◌, take}
use Rattle.gs_master_state.specs.inner.Memories.{volatile_of}
use Rattle.gs_master_state.specs.inner.Released.{ReleasesEach}
use Rattle.gs_master_state.proofs.tracked.release_all.Given as goal

abbrev pub invariant-loop-chunk : goal.invariant-loop-chunk
invariant-loop-chunk l = record {
  value : volatile_of l.memory ≡ volatile_of l.initial.memory;
  room : ReleasesEach l.initial.memory.moving l.memory.moving (take l.chunk-index l.chunks);
}
