-- A slot that is made of its parts, and a store that is made of its slots.
use Rattle.std.specs.Prelude.{◌≡◌, ◌⊎◌, ℕ, false, [], None, Result, Ok, Err, refl}
use Rattle.std.specs.FinMap as fin
use Rattle.gs_base.specs.declared.refusal.Refusal.{Refusal}
use Rattle.gs_base.specs.declared.refusal.Refusal.TheVariants as refusals
use Rattle.gs_store.specs.declared.slot.SlotParts.{SlotParts}
use Rattle.gs_store.specs.Slots.{Slot, nothing, first_stamp}
use Rattle.gs_store.specs.Stores.{Store, new}
use Rattle.gs_store.specs.Whole.{Keeps, IsSlotOf}

abbrev pub slot_of_parts : SlotParts → Slot
slot_of_parts p = record { promise = p.promise; carried = p.carried; live = p.live; trash = p.trash; taken = p.taken }

-- The slot of these parts, where they are those of one. BadLine exactly where they aren't.
abbrev pub PartsKeep : SlotParts → Result Slot Refusal → Type 0
PartsKeep p (Ok s) = (s ≡ slot_of_parts p) × Keeps p.promise p.live p.trash p.taken
PartsKeep p (Err e) = (e ≡ refusals.BadLine) × ¬ (Keeps p.promise p.live p.trash p.taken)

-- a store in which nothing is kept yet
abbrev pub at_epoch : ℕ → ℕ → ℕ → Store
at_epoch block chunk epoch = record { block = block; chunk = chunk; epoch = epoch; slots = fin.empty; buffer = [] }

-- nothing is kept of the handle, and the slot is one of the store's sizes
abbrev pub CanKeep : ℕ → Slot → Store → Type 0
CanKeep handle slot s = (fin.get s.slots handle ≡ None) × IsSlotOf s.block s.chunk slot

-- BadLine exactly where it can't be kept; where memory ran out it could be
abbrev pub KeepsIf : {B : Type 0} → Type 0 → Result B Refusal → Type 0
KeepsIf Can (Ok b) = Can
KeepsIf Can (Err e) = ((e ≡ refusals.Memory) × Can) ⊎ ((e ≡ refusals.BadLine) × ¬ Can)

-- a new store is in epoch 0
in_epoch_0 : (block chunk : ℕ) → at_epoch block chunk 0 ≡ new block chunk
in_epoch_0 block chunk = refl

-- of a handle of which nothing was heard
no_parts : slot_of_parts (record { promise = first_stamp; carried = false; live = None; trash = None; taken = None }) ≡ nothing
no_parts = refl
