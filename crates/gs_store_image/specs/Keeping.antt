-- What belongs together, as tests: the parts of a slot, and a slot to a store.
use Rattle.std.specs.Prelude.{◌≡◌, ℕ, ◌==◌, ◌&&◌, not, is_some, Bool, true, List, [], ◌∷◌, Option, Some, None, refl}
use Rattle.gs_base.specs.declared.numbers.Stamp.{Stamp}
use Rattle.gs_base.specs.Stamps.{is_before, is_same}
use Rattle.gs_replica.specs.Seals.{Sealed, State, stamp_of}
use Rattle.gs_store.specs.Slots.{Live, Slot, sealed_of, nothing}
use Rattle.gs_store.specs.Whole.{is_sealed}

-- whether a replica stands under a promise, if there is one
abbrev pub is_under : Stamp → Option Live → Bool
is_under promise None = true
is_under promise (Some l) = is_same l.replica.held.promise promise

-- whether a replica is sealed, if there is one
abbrev pub is_trash : Option State → Bool
is_trash None = true
is_trash (Some r) = is_some r.sealed

abbrev pub reaches : Stamp → Option Stamp → Bool
reaches promise None = true
reaches promise (Some stamp) = not (is_before promise stamp)

-- whether these are the parts of a slot, as Keeps says
abbrev pub keeps : Slot → Bool
keeps s = is_under s.promise s.live && (is_trash s.trash && (not (is_sealed s.live && is_some s.trash) && reaches s.promise s.taken))

abbrev pub seal_has_sizes : ℕ → ℕ → Option Sealed → Bool
seal_has_sizes block chunk None = true
seal_has_sizes block chunk (Some t) = (t.undone.block == block) && (t.undone.chunk == chunk)

abbrev pub has_sizes : ℕ → ℕ → State → Bool
has_sizes block chunk r = (r.held.chunk.block == block) && ((r.held.chunk.chunk == chunk) && seal_has_sizes block chunk r.sealed)

abbrev pub live_has_sizes : ℕ → ℕ → Option Live → Bool
live_has_sizes block chunk None = true
live_has_sizes block chunk (Some l) = has_sizes block chunk l.replica

abbrev pub trash_has_sizes : ℕ → ℕ → Option State → Bool
trash_has_sizes block chunk None = true
trash_has_sizes block chunk (Some r) = has_sizes block chunk r

-- whether a slot is one of a store of these sizes, as IsSlotOf says
abbrev pub is_slot_of : ℕ → ℕ → Slot → Bool
is_slot_of block chunk s = keeps s && (live_has_sizes block chunk s.live && (trash_has_sizes block chunk s.trash && reaches s.promise (stamp_of (sealed_of s))))

abbrev pub are_slots_of : ℕ → ℕ → List (ℕ × Slot) → Bool
are_slots_of block chunk [] = true
are_slots_of block chunk (e ∷ es) = is_slot_of block chunk e.1 && are_slots_of block chunk es

-- ---- examples

nothing_keeps : keeps nothing ≡ true
nothing_keeps = refl
