use Rattle.std.proofs.Common.{◌≡◌}
use Rattle.std.specs.Ordering.{nat_cmp}
use Rattle.gs_base_table.specs.Slots.{live}
use Rattle.gs_master_state.specs.inner.Recorded.{KeepsRooms, durable_of}
use Rattle.gs_master_state.specs.inner.TakingBack.{RoomForAll, StillTakeBack, all_leases_before, all_rooms_before}
use Rattle.gs_master_state.proofs.recorded.Recorded.take_all_back.Given as goal

abbrev pub invariant-loop-undo : goal.invariant-loop-undo
invariant-loop-undo l = record {
  value : StillTakeBack l.initial.undos.items (durable_of l.fn.self) l.undos.items (durable_of l.self);
  leases : all_leases_before l.undos.items (live nat_cmp l.self.leases) ≡ all_leases_before l.initial.undos.items (live nat_cmp l.fn.self.leases);
  room : RoomForAll l.self l.undos.items;
  keeps : KeepsRooms (all_rooms_before l.initial.undos.items l.fn.self) (all_rooms_before l.undos.items l.self);
}

abbrev pub decreases-loop-undo : goal.decreases-loop-undo
decreases-loop-undo l = goal.left-loop-undo l
