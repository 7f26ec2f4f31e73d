use Rattle.std.proofs.Common.{◌≡◌, drop, take}
use Rattle.std.specs.Prelude.{fold}
use Rattle.std.specs.FinMap as fin
use Rattle.gs_master_state.specs.inner.Memories.{volatile_of}
use Rattle.gs_master_state.specs.inner.Released.{GivesUpEach}
use Rattle.gs_master_state.proofs.memory.Memory.keep_new.Given as goal

abbrev pub invariant-loop-chunk : goal.invariant-loop-chunk
invariant-loop-chunk l = record {
  all : fold fin.remove (volatile_of l.self).moving (drop l.chunk-index l.placeless) ≡ fold fin.remove (volatile_of l.initial.self).moving l.placeless;
  value : volatile_of l.self ≡ record (volatile_of l.initial.self) { moving = (volatile_of l.self).moving };
  gives : GivesUpEach l.initial.self.moving l.self.moving (take l.chunk-index l.placeless);
}
