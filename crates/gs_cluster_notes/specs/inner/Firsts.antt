-- The first event of several lists, by their clocks.
use Rattle.std.specs.Prelude.{◌≡◌, ◌+◌, ℕ, suc, List, [], ◌∷◌, Option, Some, None, if◌then◌else◌, length, nat_le, slice_get, slice_set, refl}
use Rattle.gs_msg.specs.declared.event.Event.{Event}
use Rattle.gs_cluster_notes.specs.declared.merging.First.{First}
use Rattle.gs_cluster_notes.specs.declared.notes.Dated.{Dated}

-- the one of the lesser clock, the former of equal ones
abbrev pub sooner : ℕ → ℕ → Option First → Option First
sooner at clock None = Some (record { at = at; clock = clock })
sooner at clock (Some f) = if nat_le clock f.clock then Some (record { at = at; clock = clock }) else Some f

abbrev pub sooner_of : ℕ → List Dated → Option First → Option First
sooner_of at [] first = first
sooner_of at (d ∷ ds) first = sooner at d.clock first

-- of some lists, of which the first stands at this place
abbrev pub first_in : ℕ → List (List Dated) → Option First
first_in at [] = None
first_in at (ds ∷ rests) = sooner_of at ds (first_in (suc at) rests)

-- the event is taken from the front of the list at this place
pub record IsTaken (at : ℕ) (event : Event) (old new : List (List Dated)) : Type 0 where
  pub first : Dated
  pub behind : List Dated
  pub there : slice_get old at ≡ Some (first ∷ behind)
  pub is : event ≡ first.event
  pub left : new ≡ slice_set old at behind

-- The event that comes first is taken, if there is one.
abbrev pub Next : List (List Dated) → Option Event → List (List Dated) → Type 0
Next old None new = first_in 0 old ≡ None
Next old (Some event) new = (f : First) × (first_in 0 old ≡ Some f) × IsTaken f.at event old new

-- so many events are left
abbrev pub left_in : List (List Dated) → ℕ
left_in [] = 0
left_in (ds ∷ rests) = length ds + left_in rests

-- Worked: of three lists, the first begins at clock 4, and both others at clock 1.
module _ (event : Event) where
  abbrev at : ℕ → Dated
  at clock = record { clock = clock; event = event }

  the_former : first_in 0 ((at 4 ∷ []) ∷ (at 1 ∷ at 9 ∷ []) ∷ (at 1 ∷ []) ∷ []) ≡ Some (record { at = 1; clock = 1 })
  the_former = refl

  nothing_left : first_in 0 ([] ∷ [] ∷ []) ≡ None
  nothing_left = refl
