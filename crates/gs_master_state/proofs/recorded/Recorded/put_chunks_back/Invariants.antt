use Rattle.std.proofs.Common.{◌≡◌}
use Rattle.std.specs.Ordering.{nat_cmp}
use Rattle.gs_base_table.specs.Slots.{live}
use Rattle.gs_master_state.specs.inner.Recorded.{KeepsRooms, durable_of}
use Rattle.gs_master_state.specs.inner.TakingBack.{RoomForChunks, with_chunks_before, with_leases_before}
use Rattle.gs_master_state.proofs.recorded.Recorded.put_chunks_back.Given as goal

abbrev pub invariant-loop-before : goal.invariant-loop-before
invariant-loop-before l = record {
  value : with_chunks_before l.chunks.items (durable_of l.self) ≡ with_chunks_before l.initial.chunks.items (durable_of l.fn.self);
  leases : with_leases_before l.chunks.items (live nat_cmp l.self.leases) ≡ with_leases_before l.initial.chunks.items (live nat_cmp l.fn.self.leases);
  room : RoomForChunks l.self l.chunks.items;
  replies : l.self.replies ≡ l.fn.self.replies;
  inverses : l.self.inverses ≡ l.fn.self.inverses;
  keeps : KeepsRooms l.fn.self l.self;
}

abbrev pub decreases-loop-before : goal.decreases-loop-before
decreases-loop-before l = goal.left-loop-before l
