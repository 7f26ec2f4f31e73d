-- The slots of a store stand in a list, each handle's at a place of its own.
use Rattle.std.specs.Prelude.{◌≡◌, ℕ, ◌<◌, List, [], ◌∷◌, length, map, get_or, Some}
use Rattle.std.specs.FinMap as fin
use Rattle.std.specs.Ordering.{nat_cmp}
use Rattle.gs_store.specs.Slots.{Slot, nothing}
use Rattle.gs_store.specs.Stores.{each}

abbrev pub slot_at : List Slot → ℕ → Slot
slot_at slots place = get_or slots place nothing

abbrev pub slots_at : fin.FinMap nat_cmp ℕ → List Slot → fin.FinMap nat_cmp Slot
slots_at places slots = each (slot_at slots) places

-- places as entries of the slots that stand there
abbrev pub entries_at : List (ℕ × ℕ) → List Slot → List (ℕ × Slot)
entries_at places slots = map (λ e. (e.0, slot_at slots e.1)) places

-- each place is one of the list
abbrev pub AreWithin : List (ℕ × ℕ) → List Slot → Type 0
AreWithin [] slots = Unit {0}
AreWithin (e ∷ es) slots = (e.1 < length slots) × AreWithin es slots

pub record IsPlaced (places : fin.FinMap nat_cmp ℕ) (slots : List Slot) : Type 0 where
  pub within : (handle place : ℕ) → fin.get places handle ≡ Some place → place < length slots
  pub apart : (a b place : ℕ) → fin.get places a ≡ Some place → fin.get places b ≡ Some place → a ≡ b
