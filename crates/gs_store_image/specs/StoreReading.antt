-- How slots and stores are read.
use Rattle.std.specs.Prelude.{ℕ, ◌==◌, ◌&&◌, if◌then◌else◌, Bool, List, [], Option, Some, None}
use Rattle.std.specs.FinMap as fin
use Rattle.std.specs.Int.{w64}
use Rattle.gs_base.specs.declared.numbers.Stamp.{Stamp}
use Rattle.gs_fields.specs.Reading.{Reader, both, made, number_at, long_list_at, flag_at, option_at, stamp_at}
use Rattle.gs_replica.specs.Seals.{State}
use Rattle.gs_store.specs.Slots.{Live, Slot}
use Rattle.gs_store.specs.Stores.{Store}
use Rattle.gs_store_image.specs.Keeping.{keeps, are_slots_of}
use Rattle.gs_store_image.specs.Reading.{replica_at, rises}

abbrev pub live_of : State × Option ℕ → Option Live
live_of x = Some (record { replica = x.0; bad = x.1 })

unfoldable pub live_at : ℕ → ℕ → Reader Live
live_at block chunk = made live_of (both (replica_at block chunk) (option_at (number_at w64)))

abbrev pub SlotFields : Type 0
SlotFields = Stamp × (Bool × (Option Live × (Option State × Option Stamp)))

abbrev pub slot_with : SlotFields → Slot
slot_with x = record { promise = x.0; carried = x.1.0; live = x.1.1.0; trash = x.1.1.1.0; taken = x.1.1.1.1 }

abbrev pub slot_of : SlotFields → Option Slot
slot_of x = if keeps (slot_with x) then Some (slot_with x) else None

-- with replicas in chunks of these sizes
unfoldable pub slot_at : ℕ → ℕ → Reader Slot
slot_at block chunk = made slot_of (both stamp_at (both flag_at (both (option_at (live_at block chunk)) (both (option_at (replica_at block chunk)) (option_at stamp_at)))))

abbrev pub handle_of : ℕ → Option ℕ
handle_of n = if n == 0 then None else Some n

unfoldable pub handle_at : Reader ℕ
handle_at = made handle_of (number_at w64)

unfoldable pub kept_at : ℕ → ℕ → Reader (ℕ × Slot)
kept_at block chunk = both handle_at (slot_at block chunk)

-- the handles rise, and each slot is one of a store of these sizes
abbrev pub store_of : ℕ → ℕ → ℕ × List (ℕ × Slot) → Option Store
store_of block chunk x =
    if rises x.1 && are_slots_of block chunk x.1 then Some (record { block = block; chunk = chunk; epoch = x.0; slots = fin.from_entries x.1; buffer = [] }) else None

unfoldable pub store_at : ℕ → ℕ → Reader Store
store_at block chunk = made (store_of block chunk) (both (number_at w64) (long_list_at (kept_at block chunk)))
