use Rattle.std.proofs.Common.{◌≡◌, take}
use Rattle.std.specs.Ordering.{nat_cmp}
use Rattle.gs_base_table.specs.Slots.{KeepsRoom, live}
use Rattle.gs_master_state.specs.inner.Recorded.{RoomForEach}
use Rattle.gs_master_state.proofs.entry.reserve_each.Given as goal

abbrev pub invariant-loop-chunk : goal.invariant-loop-chunk
invariant-loop-chunk l = record {
  same : live nat_cmp l.prepared ≡ live nat_cmp l.fn.prepared;
  room : RoomForEach l.phase l.prepared (take l.chunk-index l.chunks);
  keeps : KeepsRoom nat_cmp l.fn.prepared l.prepared;
}
