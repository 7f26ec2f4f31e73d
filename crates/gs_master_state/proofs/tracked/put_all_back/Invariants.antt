use Rattle.std.proofs.Common.{◌≡◌, length}
use Rattle.gs_master_state.specs.inner.Memories.{volatile_of}
use Rattle.gs_master_state.specs.inner.Tracked.{HaveRoomBack, slots_back}
use Rattle.gs_master_state.proofs.tracked.put_all_back.Given as goal

abbrev pub invariant-loop-slot : goal.invariant-loop-slot
invariant-loop-slot l = HaveRoomBack l.memory l.touched.items × (slots_back (volatile_of l.memory) l.touched.items ≡ slots_back (volatile_of l.initial.memory) l.initial.touched.items)

abbrev pub decreases-loop-slot : goal.decreases-loop-slot
decreases-loop-slot l = length l.touched.items
