-- What the master's memory holds, without where it lies.
use Rattle.std.specs.Ordering.{nat_cmp}
use Rattle.gs_base_table.specs.Slots.{live, KeepsRoom}
use Rattle.gs_master_spec.specs.Replies.{client_cmp}
use Rattle.gs_master_spec.specs.Volatile.{Volatile}
use Rattle.gs_master_state.specs.declared.memory.Memory.{Memory}

abbrev pub volatile_of : Memory → Volatile
volatile_of m = record {
  is_preparing = m.is_preparing;
  moving = live nat_cmp m.moving;
  unplaced = m.unplaced.items;
  pending = m.pending.items;
  locks = m.locks;
  restored = live nat_cmp m.restored;
  replies = live client_cmp m.replies;
  taken_out = m.taken_out.items;
}

-- whatever had room has it still
pub record KeepsRooms (old new : Memory) : Type 0 where
  pub moving : KeepsRoom nat_cmp old.moving new.moving
  pub restored : KeepsRoom nat_cmp old.restored new.restored
  pub replies : KeepsRoom client_cmp old.replies new.replies
