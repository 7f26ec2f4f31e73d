use Rattle.std.proofs.Common.{◌≡◌, drop, take}
use Rattle.gs_master_spec.specs.Applied.{without_chunks}
use Rattle.gs_master_state.specs.inner.Recorded.{RoomForEach, durable_of}
use Rattle.gs_master_state.specs.inner.Released.{GivesUpEach}
use Rattle.gs_master_state.proofs.recorded.Recorded.forget_chunks.Given as goal

abbrev pub invariant-loop-chunk : goal.invariant-loop-chunk
invariant-loop-chunk l = record {
  value : without_chunks (durable_of l.self) (drop l.chunk-index l.chunks) ≡ without_chunks (durable_of l.fn.self) l.chunks;
  gives : GivesUpEach l.fn.self.leases l.self.leases (take l.chunk-index l.chunks);
  room : RoomForEach l.self.phase l.self.prepared (drop l.chunk-index l.chunks);
  replies : l.self.replies ≡ l.fn.self.replies;
  inverses : l.self.inverses ≡ l.fn.self.inverses;
}
