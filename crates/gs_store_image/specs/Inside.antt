-- What the bodies of this crate speak of among themselves: no public contract rests on it.
use Rattle.std.specs.Prelude.{◌≡◌, ℕ, true, false, List, Option, Some, None, Result, Ok, Err}
use Rattle.std.specs.FinMap as fin
use Rattle.gs_fields.specs.declared.fault.Fault.{Fault}
use Rattle.gs_fields.specs.declared.fault.Fault.TheVariants as faults
use Rattle.gs_replica.specs.Seals.{State}
use Rattle.gs_store.specs.Slots.{Live, Slot}
use Rattle.gs_store.specs.Stores.{Store, with_slots}
use Rattle.gs_store_image.specs.Keeping.{are_slots_of}
use Rattle.gs_store_image.specs.StoreWritable.{IsReplicaHeld}

-- Form exactly where it can't be kept
abbrev pub KeepsFor : {B : Type 0} → Type 0 → Result B Fault → Type 0
KeepsFor Can (Ok b) = Can
KeepsFor Can (Err faults.Memory) = Unit {0}
KeepsFor Can (Err faults.Form) = ¬ Can

-- all of these slots are kept, or one of them isn't of the store's sizes
abbrev pub KeepsAll : {B : Type 0} → List (ℕ × Slot) → Store → Store → Result B Fault → Type 0
KeepsAll es old new (Ok b) = (new ≡ with_slots (fin.from_entries es) old) × (are_slots_of old.block old.chunk es ≡ true)
KeepsAll es old new (Err faults.Memory) = Unit {0}
KeepsAll es old new (Err faults.Form) = are_slots_of old.block old.chunk es ≡ false

abbrev pub LiveHeld : Option Live → Type 0
LiveHeld None = Unit {0}
LiveHeld (Some l) = IsReplicaHeld l.replica

abbrev pub TrashHeld : Option State → Type 0
TrashHeld None = Unit {0}
TrashHeld (Some r) = IsReplicaHeld r
