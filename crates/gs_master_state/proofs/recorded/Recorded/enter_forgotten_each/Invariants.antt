use Rattle.std.proofs.Common.{◌≡◌, ◌≤◌, drop, length, vec_len, vec_capacity}
use Rattle.std.specs.Ordering.{nat_cmp}
use Rattle.gs_base_table.specs.Slots.{live}
use Rattle.gs_master_spec.specs.Applied.{without_chunks}
use Rattle.gs_master_state.specs.inner.Recorded.{KeepsRooms, RoomForEach, durable_of}
use Rattle.gs_master_state.specs.inner.TakingBack.{RoomForChunks, with_chunks_before, with_leases_before}
use Rattle.gs_master_state.proofs.recorded.Recorded.enter_forgotten_each.Given as goal

abbrev pub invariant-loop-chunk : goal.invariant-loop-chunk
invariant-loop-chunk l = record {
  value : without_chunks (durable_of l.self) (drop l.chunk-index l.chunks) ≡ without_chunks (durable_of l.fn.self) l.chunks;
  prepared : RoomForEach l.self.phase l.self.prepared (drop l.chunk-index l.chunks);
  back : durable_of l.fn.self ≡ with_chunks_before l.before.items (durable_of l.self);
  leases : live nat_cmp l.fn.self.leases ≡ with_leases_before l.before.items (live nat_cmp l.self.leases);
  room : RoomForChunks l.self l.before.items;
  replies : l.self.replies ≡ l.fn.self.replies;
  inverses : l.self.inverses ≡ l.fn.self.inverses;
  keeps : KeepsRooms l.fn.self l.self;
  len : vec_len l.before ≡ l.chunk-index;
  capacity : length l.chunks ≤ vec_capacity l.before;
}
