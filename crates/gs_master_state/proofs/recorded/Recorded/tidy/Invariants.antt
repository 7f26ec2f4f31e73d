use Rattle.std.proofs.Common.{◌≡◌, drop, take}
use Rattle.std.specs.Prelude.{fold}
use Rattle.std.specs.FinMap as fin
use Rattle.gs_master_state.specs.inner.Recorded.{durable_of}
use Rattle.gs_master_state.specs.inner.Released.{GivesUpEach}
use Rattle.gs_master_state.proofs.recorded.Recorded.tidy.Given as goal

abbrev pub invariant-loop-chunk : goal.invariant-loop-chunk
invariant-loop-chunk l = record {
  all : fold fin.remove (durable_of l.self).chunks (drop l.chunk-index l.chunks) ≡ fold fin.remove (durable_of l.initial.self).chunks l.chunks;
  value : durable_of l.self ≡ record (durable_of l.initial.self) { chunks = (durable_of l.self).chunks };
  gives : GivesUpEach l.initial.self.leases l.self.leases (take l.chunk-index l.chunks);
}
