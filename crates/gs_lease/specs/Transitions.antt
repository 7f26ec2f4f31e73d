-- How a chunk goes from one state to the next. A quiet or leased chunk is seen as its view, a moving one as what is
-- proposed.
use Rattle.std.specs.Prelude.{◌≡◌, ℕ, ◌+◌, Bool, true, false, List, [], ◌∷◌, Option, Some, None, Result, Ok, Err, min, ◌&&◌, is_some, is_none, slice_get, refl}
use Rattle.std.specs.Option.{option_map}
use Rattle.std.specs.List.{list_any}
use Rattle.gs_base.specs.Members.{is_member}
use Rattle.gs_base.specs.Numbers.{last_number}
use Rattle.gs_base.specs.Stamps.{is_before, is_same}
use Rattle.gs_lease.specs.Views.{without_term}
use Rattle.gs_base.specs.declared.numbers.Stamp.{Stamp}
use Rattle.gs_base.specs.declared.numbers.Moment.{Moment}
use Rattle.gs_base.specs.declared.refusal.Refusal.{Refusal}
use Rattle.gs_base.specs.declared.refusal.Refusal.TheVariants.{NoReplica, Old, BadLine}
use Rattle.gs_lease.specs.declared.view.Term.{Term}
use Rattle.gs_lease.specs.declared.view.View.{View}
use Rattle.gs_lease.specs.declared.view.Proposed.{Proposed}
use Rattle.gs_lease.specs.declared.view.Purpose.{Purpose}
use Rattle.gs_lease.specs.declared.view.Purpose.TheVariants as purposes
use Rattle.gs_lease.specs.declared.lease.Settled.{Settled}
use Rattle.gs_lease.specs.declared.lease.Settled.TheVariants as settlings
use Rattle.gs_lease.specs.declared.lease.Lease.{Lease}
use Rattle.gs_lease.specs.declared.lease.Lease.TheVariants as leases

-- a view is proposed to the members of the settled one
abbrev pub begun : View → Stamp → Purpose → Proposed
begun view stamp purpose = record { settled = Some view; stamp = stamp; purpose = purpose; asked = view.members }

-- and to the targets of a new chunk
abbrev pub begun_new : Stamp → List ℕ → Proposed
begun_new stamp targets = record { settled = None; stamp = stamp; purpose = purposes.Quiet; asked = targets }

abbrev pub asked_again : Proposed → List ℕ
asked_again proposed = asked_of proposed.settled
  where
    asked_of : Option View → List ℕ
    asked_of None = proposed.asked
    asked_of (Some view) = view.members

abbrev pub begun_again : Proposed → Stamp → Purpose → Proposed
begun_again proposed stamp purpose = record { settled = proposed.settled; stamp = stamp; purpose = purpose; asked = asked_again proposed }

-- a term of 60 from the moment of the settling
abbrev pub end_of : Moment → Moment
end_of moment = record { 0 = min (moment.0 + 60) last_number }

-- a lease is given to the lowest member, where that is what the view was proposed for
abbrev pub term_of : Purpose → List ℕ → Moment → Option Term
term_of purposes.Quiet members moment = None
term_of purposes.Lease members moment = option_map (λ primary. record { primary = primary; end = end_of moment }) (slice_get members 0)
term_of (purposes.Copy target) members moment = None

abbrev pub settled_view : Proposed → List ℕ → ℕ → Moment → View
settled_view proposed members count moment =
    record { stamp = proposed.stamp; count = count; members = members; term = term_of proposed.purpose members moment }

-- whether a member was asked
abbrev pub is_any_asked : List ℕ → List ℕ → Bool
is_any_asked asked members = list_any (is_member asked) members

-- of a copy to server 2 that servers 0 and 1 were asked for, its target alone is nobody who was asked
target_alone : is_any_asked (0 ∷ 1 ∷ []) (2 ∷ []) ≡ false
target_alone = refl

target_and_another : is_any_asked (0 ∷ 1 ∷ []) (1 ∷ 2 ∷ []) ≡ true
target_and_another = refl

-- a chunk on a settled view: leased where the view has a primary, else quiet
abbrev pub settled_on : View → Settled
settled_on view = by_term view.term
  where
    by_term : Option Term → Settled
    by_term None = settlings.Quiet (without_term view)
    by_term (Some term) = settlings.Leased view

-- the view of a settling, and a refusal exactly where no member was asked
abbrev pub ViewFor : Proposed → List ℕ → ℕ → Moment → Result View Refusal → Type 0
ViewFor proposed members count moment (Ok view) = (is_any_asked proposed.asked members ≡ true) × (view ≡ settled_view proposed members count moment)
ViewFor proposed members count moment (Err refusal) = (is_any_asked proposed.asked members ≡ false) × (refusal ≡ NoReplica)

-- the same, with the chunk on it
abbrev pub Settles : Proposed → List ℕ → ℕ → Moment → Result Settled (Proposed × Refusal) → Type 0
Settles proposed members count moment (Ok settled) = (is_any_asked proposed.asked members ≡ true) × (settled ≡ settled_on (settled_view proposed members count moment))
Settles proposed members count moment (Err refused) = (is_any_asked proposed.asked members ≡ false) × (refused ≡ (proposed, NoReplica))

abbrev pub is_for_lease : Purpose → Bool
is_for_lease purposes.Quiet = false
is_for_lease purposes.Lease = true
is_for_lease (purposes.Copy target) = false

abbrev pub has_its_term : Purpose → Option Term → Bool
has_its_term purposes.Quiet term = is_none term
has_its_term purposes.Lease term = is_some term
has_its_term (purposes.Copy target) term = is_none term

-- whether a view could be what the proposal is settled on: it has the stamp and a member that was asked, and a primary exactly
-- where one was proposed
abbrev pub fits : Proposed → View → Bool
fits proposed view =
    is_same view.stamp proposed.stamp && (is_any_asked proposed.asked view.members && has_its_term proposed.purpose view.term)

-- what a view as it is told gives, and a refusal exactly where it doesn't fit
abbrev pub SettlesAs : Proposed → View → Result Settled (Proposed × Refusal) → Type 0
SettlesAs proposed view (Ok settled) = (fits proposed view ≡ true) × (settled ≡ settled_on view)
SettlesAs proposed view (Err refused) = (fits proposed view ≡ false) × (refused ≡ (proposed, BadLine))

-- what a new proposal gives, and a refusal exactly where its stamp isn't above
abbrev pub Begins : {A : Type 0} → A → Stamp → Stamp → Proposed → Result Proposed (A × Refusal) → Type 0
Begins old stamp new begun (Ok proposed) = (is_before stamp new ≡ true) × (proposed ≡ begun)
Begins old stamp new begun (Err refused) = (is_before stamp new ≡ false) × (refused ≡ (old, Old))

abbrev pub lease_of : Settled → Lease
lease_of (settlings.Quiet view) = leases.Quiet view
lease_of (settlings.Leased view) = leases.Leased view

-- a chunk as it is read from a journal: moving under this stamp with nobody asked, or else as its view says
abbrev pub restored : View → Option Stamp → Lease
restored view (Some stamp) = leases.Moving (record { settled = Some view; stamp = stamp; purpose = purposes.Quiet; asked = [] })
restored view None = lease_of (settled_on view)
