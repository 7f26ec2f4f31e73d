-- What is kept in memory alone while an event lasts: as it is now, and as it was before, to which want of memory leads back.
use Rattle.std.specs.Prelude.{◌≡◌, ℕ, Bool, true, false, List, [], ◌∷◌, Option, Some, None, is_some, refl}
use Rattle.std.specs.Coded.{Coded, code_by, coded×, coded_bool, coded_list, coded_option, coded_ℕ}
use Rattle.std.specs.Ordering.{nat_cmp}
use Rattle.gs_base_table.specs.Slots.{HasRoom, live, set_live}
use Rattle.gs_master_state.specs.inner.Codes.{coded_volatile}
use Rattle.gs_master_state.specs.inner.Memories.{volatile_of}
use Rattle.gs_master_spec.specs.Replies.{client_cmp}
use Rattle.gs_master_spec.specs.Volatile.{Volatile, nothing}
use Rattle.gs_master_spec.specs.contracts.asking.Asking as asking
use Rattle.gs_master_spec.specs.declared.asking.Asking.{Asking}
use Rattle.gs_master_state.specs.declared.memory.Memory.{Memory}
use Rattle.gs_master_state.specs.declared.tracked.Calls.{Calls}
use Rattle.gs_master_state.specs.declared.tracked.Slot.{Slot}
use Rattle.gs_master_state.specs.declared.tracked.Slot.TheVariants as slots

-- and whether the calls that waited before are kept; the room of chunks for what is asked, and those for which the event asked or
-- asks no more
pub record NowAndBefore : Type 0 where
  pub now : Volatile
  pub before : Volatile
  pub keeps_calls : Bool
  pub rooms : List (ℕ × Option Asking)
  pub asked : List ℕ

abbrev pub coded_now_and_before : Coded NowAndBefore
coded_now_and_before =
    code_by (Volatile × (Volatile × (Bool × (List (ℕ × Option Asking) × List ℕ))))
    (coded× coded_volatile (coded× coded_volatile (coded× coded_bool (coded× (coded_list (coded× coded_ℕ (coded_option asking.the_row.coded))) (coded_list coded_ℕ)))))
    (λ v. (v.now, (v.before, (v.keeps_calls, (v.rooms, v.asked)))))
    (λ p. record { now = p.0; before = p.1.0; keeps_calls = p.1.1.0; rooms = p.1.1.1.0; asked = p.1.1.1.1 }) (λ _. refl)

-- what stood at a place stands there again
abbrev pub slot_back : Volatile → Slot → Volatile
slot_back v (slots.Asked chunk asked) = record v { moving = set_live chunk asked v.moving }
slot_back v (slots.Replied client replied) = record v { replies = set_live client replied v.replies }
slot_back v (slots.Restored chunk restored) = record v { restored = set_live chunk restored v.restored }
slot_back v (slots.Preparing is_preparing) = record v { is_preparing = is_preparing }
slot_back v (slots.Rolled moving restored) = record v { moving = live nat_cmp moving; restored = live nat_cmp restored }

-- the last one first
abbrev pub slots_back : Volatile → List Slot → Volatile
slots_back v [] = v
slots_back v (slot ∷ touched) = slot_back (slots_back v touched) slot

-- the calls that waited, if they have changed
abbrev pub calls_back : Option Calls → Volatile → Volatile
calls_back None v = v
calls_back (Some calls) v = record v { unplaced = calls.unplaced.items; pending = calls.pending.items; locks = calls.locks }

abbrev pub tracked_of : Memory → List Slot → Option Calls → List ℕ → NowAndBefore
tracked_of memory touched calls asked = record {
  now = volatile_of memory;
  before = calls_back calls (slots_back (volatile_of memory) touched);
  keeps_calls = is_some calls;
  rooms = memory.moving;
  asked = asked;
}

-- ---- room, so that taking back wants no memory

abbrev pub HasRoomBack : Memory → Slot → Type 0
HasRoomBack m (slots.Asked chunk asking) = HasRoom nat_cmp m.moving chunk
HasRoomBack m (slots.Replied client reply) = HasRoom client_cmp m.replies client
HasRoomBack m (slots.Restored chunk servers) = HasRoom nat_cmp m.restored chunk
HasRoomBack m (slots.Preparing is_preparing) = Unit {0}
HasRoomBack m (slots.Rolled moving restored) = Unit {0}

-- tables that were given up are put back with the room that they had
abbrev pub rooms_before : Slot → Memory → Memory
rooms_before (slots.Asked chunk asking) m = m
rooms_before (slots.Replied client reply) m = m
rooms_before (slots.Restored chunk servers) m = m
rooms_before (slots.Preparing is_preparing) m = m
rooms_before (slots.Rolled moving restored) m = record m { moving = moving; restored = restored }

-- the last one first
abbrev pub all_rooms_before : List Slot → Memory → Memory
all_rooms_before [] m = m
all_rooms_before (slot ∷ touched) m = rooms_before slot (all_rooms_before touched m)

-- each has its room once those behind it are put back
abbrev pub HaveRoomBack : Memory → List Slot → Type 0
HaveRoomBack m [] = Unit {0}
HaveRoomBack m (slot ∷ touched) = HasRoomBack (all_rooms_before touched m) slot × HaveRoomBack m touched

-- ---- examples

preparing_no_more : slots_back (record nothing { is_preparing = true }) (slots.Preparing false ∷ slots.Preparing true ∷ []) ≡ nothing
preparing_no_more = refl

-- a rollback was done and a chunk asked for since: both are put back, the last one first
asked_again : (v : Volatile) (moving : List (ℕ × Option Asking)) (restored : List (ℕ × Option (List ℕ))) → (slots_back v (slots.Rolled moving restored ∷ slots.Asked 3 None ∷ [])).moving ≡ live nat_cmp moving
asked_again v moving restored = refl
