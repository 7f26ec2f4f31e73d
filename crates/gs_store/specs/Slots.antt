-- What a server keeps of one handle, and the calls that change it.
use Rattle.std.specs.Prelude.{◌≡◌, ℕ, ◌&&◌, not, cond, Bool, true, false, List, [], ◌∷◌, Option, Some, None, is_some, Result, Ok, Err, refl}
use Rattle.std.specs.Coded.{Coded, code_by, coded×, coded_ℕ, coded_bool, coded_option}
use Rattle.gs_base.specs.declared.numbers.Stamp.{Stamp}
use Rattle.gs_base.specs.Stamps.{is_before, is_same}
use Rattle.gs_base.specs.contracts.numbers.Stamp as stamps
use Rattle.gs_base.specs.declared.refusal.Refusal.{Refusal}
use Rattle.gs_base.specs.declared.refusal.Refusal.TheVariants as refusals
use Rattle.gs_replica.specs.Held.{Held}
use Rattle.gs_replica.specs.Edits.{fresh}
use Rattle.gs_replica.specs.Seals.{Sealed, State, coded_state}
use Rattle.gs_replica.specs.Seals as replicas
use Rattle.gs_store_seal.specs.Trash.{trash_of}

-- a live replica, and the block that marks it as bad
pub record Live : Type 0 where
  pub replica : State
  pub bad : Option ℕ

-- The stamp that is promised for the handle, and whether a copy of that stamp carried a sealed image; the replica that is live;
-- the sealed replica that stands in the trash; and the stamp of the lease that was taken last.
pub record Slot : Type 0 where
  pub promise : Stamp
  pub carried : Bool
  pub live : Option Live
  pub trash : Option State
  pub taken : Option Stamp

abbrev pub coded_live : Coded Live
coded_live = code_by (State × Option ℕ) (coded× coded_state (coded_option coded_ℕ)) (λ l. (l.replica, l.bad)) (λ p. record { replica = p.0; bad = p.1 }) (λ _. refl)

abbrev pub coded_slot : Coded Slot
coded_slot =
    code_by (Stamp × (Bool × (Option Live × (Option State × Option Stamp))))
    (coded× stamps.the_row.coded (coded× coded_bool (coded× (coded_option coded_live) (coded× (coded_option coded_state) (coded_option stamps.the_row.coded)))))
    (λ s. (s.promise, (s.carried, (s.live, (s.trash, s.taken))))) (λ p. record { promise = p.0; carried = p.1.0; live = p.1.1.0; trash = p.1.1.1.0; taken = p.1.1.1.1 }) (λ _. refl)

-- before every stamp
abbrev pub first_stamp : Stamp
first_stamp = record { epoch = 0; version = 0 }

-- of a handle of which nothing was heard
abbrev pub nothing : Slot
nothing = record { promise = first_stamp; carried = false; live = None; trash = None; taken = None }

abbrev pub sound : State → Live
sound r = record { replica = r; bad = None }

-- Refusals stand in the order in which they are looked for.
abbrev pub when : Bool → Refusal → Option Refusal
when true refusal = Some refusal
when false refusal = None

abbrev pub first_of : List (Option Refusal) → Option Refusal
first_of [] = None
first_of (None ∷ rest) = first_of rest
first_of (Some refusal ∷ rest) = Some refusal

abbrev pub unless : {A : Type 0} → Option Refusal → Result A Refusal → Result A Refusal
unless None call = call
unless (Some refusal) call = Err refusal

abbrev pub unless_live : Option Live → Option Refusal
unless_live None = Some refusals.NoReplica
unless_live (Some l) = None

abbrev pub bad_block : Option ℕ → Option Refusal
bad_block None = None
bad_block (Some block) = Some (refusals.Damaged block)

abbrev pub if_bad : Option Live → Option Refusal
if_bad None = None
if_bad (Some l) = bad_block l.bad

abbrev pub unless_promised : Stamp → Slot → Option Refusal
unless_promised stamp s = when (not (is_same stamp s.promise)) (refusals.Stamp s.promise)

abbrev pub trash_behind : Option Live → Option State → Option State
trash_behind None trash = trash
trash_behind (Some l) trash = trash_of l.replica.sealed l.replica trash

abbrev pub removed : Slot → Slot
removed s = record { promise = s.promise; carried = s.carried; live = None; trash = trash_behind s.live s.trash; taken = s.taken }

-- a replica under a greater promise, in place of the one that was live
abbrev pub replaced : Stamp → Bool → State → Slot → Slot
replaced stamp carried r s = record { promise = stamp; carried = carried; live = Some (sound r); trash = trash_behind s.live s.trash; taken = s.taken }

-- a call that is repeated finds what it made
abbrev pub again : Stamp → Slot → Result Slot Refusal
again stamp s = cond (is_same stamp s.promise && is_some s.live) (Ok s) (Err refusals.Old)

-- an empty replica under a greater stamp
abbrev pub create : ℕ → ℕ → Stamp → Slot → Result Slot Refusal
create block chunk stamp s = cond (is_before s.promise stamp) (Ok (replaced stamp false (record { held = fresh block chunk stamp; sealed = None }) s)) (again stamp s)

abbrev pub held_under : Stamp → Held → Held
held_under stamp h = record { chunk = h.chunk; count = h.count; done = h.done; promise = stamp }

abbrev pub live_under : Stamp → Option Live → Option Live
live_under stamp None = None
live_under stamp (Some l) = Some (record { replica = record { held = held_under stamp l.replica.held; sealed = l.replica.sealed }; bad = l.bad })

-- under a promise that isn't less; that of the copy's own stamp says again what the copy carried
abbrev pub risen : Stamp → Slot → Slot
risen stamp s = record { promise = stamp; carried = s.carried && is_same stamp s.promise; live = live_under stamp s.live; trash = s.trash; taken = s.taken }

abbrev pub advance : Stamp → Slot → Result Slot Refusal
advance stamp s = unless (first_of (unless_live s.live ∷ if_bad s.live ∷ when (is_before stamp s.promise) refusals.Old ∷ [])) (Ok (risen stamp s))

-- the promise stays, and what was sealed goes to the trash
abbrev pub drop_replica : Stamp → Slot → Result Slot Refusal
drop_replica promise s = unless (first_of (unless_promised promise s ∷ unless_live s.live ∷ [])) (Ok (removed s))

-- a grant is of the promised stamp, and of none that was taken before
abbrev pub check_grant : Stamp → Slot → Option Refusal
check_grant stamp s = first_of (unless_live s.live ∷ unless_promised stamp s ∷ [])

abbrev pub is_taken : Stamp → Option Stamp → Bool
is_taken stamp None = false
is_taken stamp (Some taken) = is_same stamp taken

abbrev pub taking : Stamp → Slot → Slot
taking stamp s = record { promise = s.promise; carried = s.carried; live = s.live; trash = s.trash; taken = Some stamp }

abbrev pub take_lease : Stamp → Slot → Result Slot Refusal
take_lease stamp s = unless (first_of (check_grant stamp s ∷ when (is_taken stamp s.taken) refusals.Old ∷ [])) (Ok (taking stamp s))

-- what was live and what was in the trash are lost together
abbrev pub lost : Slot → Slot
lost s = record { promise = s.promise; carried = s.carried; live = None; trash = None; taken = s.taken }

abbrev pub lose : Slot → Result Slot Refusal
lose s = cond (is_some s.live) (Ok (lost s)) (cond (is_some s.trash) (Ok (lost s)) (Err refusals.NoReplica))

-- damage is of what is live, or else of what is in the trash
abbrev pub with_live : Slot → Option ℕ → Result State Refusal → Result Slot Refusal
with_live s bad (Ok r) = Ok (record { promise = s.promise; carried = s.carried; live = Some (record { replica = r; bad = bad }); trash = s.trash; taken = s.taken })
with_live s bad (Err e) = Err e

abbrev pub with_trash : Slot → Result State Refusal → Result Slot Refusal
with_trash s (Ok r) = Ok (record { promise = s.promise; carried = s.carried; live = s.live; trash = Some r; taken = s.taken })
with_trash s (Err e) = Err e

abbrev pub damage_of : ℕ → Slot → Option Live → Option State → Result Slot Refusal
damage_of block s None None = Err refusals.NoReplica
damage_of block s None (Some r) = with_trash s (replicas.damage block r)
damage_of block s (Some l) trash = with_live s l.bad (replicas.damage block l.replica)

abbrev pub damage : ℕ → Slot → Result Slot Refusal
damage block s = damage_of block s s.live s.trash

-- the first block that failed stays the mark
abbrev pub first_bad : ℕ → Option ℕ → Option ℕ
first_bad block None = Some block
first_bad block (Some first) = Some first

abbrev pub marked_live : ℕ → Option Live → Option Live
marked_live block None = None
marked_live block (Some l) = Some (record { replica = l.replica; bad = first_bad block l.bad })

abbrev pub mark_bad : ℕ → Slot → Slot
mark_bad block s = record { promise = s.promise; carried = s.carried; live = marked_live block s.live; trash = s.trash; taken = s.taken }

abbrev pub bad_in : Option Live → Option ℕ
bad_in None = None
bad_in (Some l) = l.bad

-- how many edits the live replica has applied
abbrev pub count_of : Option Live → Option ℕ
count_of None = None
count_of (Some l) = Some l.replica.held.count

-- the one sealed image, wherever it stands
abbrev pub trashed_seal : Option State → Option Sealed
trashed_seal None = None
trashed_seal (Some r) = r.sealed

abbrev pub seal_in : Option Sealed → Option State → Option Sealed
seal_in None trash = trashed_seal trash
seal_in (Some t) trash = Some t

abbrev pub seal_of : Option Live → Option State → Option Sealed
seal_of None trash = trashed_seal trash
seal_of (Some l) trash = seal_in l.replica.sealed trash

abbrev pub sealed_of : Slot → Option Sealed
sealed_of s = seal_of s.live s.trash

-- Worked: a slot whose replica of no edits was sealed under 2.1, and the calls on it.
abbrev pub stamp_of : ℕ → ℕ → Stamp
stamp_of epoch version = record { epoch = epoch; version = version }

abbrev pub empty_replica : Stamp → State
empty_replica stamp = record { held = fresh 4 16 stamp; sealed = None }

abbrev pub sealed_replica : Stamp → State
sealed_replica stamp = replicas.seal (empty_replica stamp)

abbrev pub standing : State → Slot
standing r = record { promise = r.held.promise; carried = false; live = Some (sound r); trash = None; taken = None }

abbrev pub dropped : State → Slot
dropped r = record { promise = r.held.promise; carried = false; live = None; trash = Some r; taken = None }

a_first_replica : create 4 16 (stamp_of 0 1) nothing ≡ Ok (standing (empty_replica (stamp_of 0 1)))
a_first_replica = refl

created_again : create 4 16 (stamp_of 0 1) (standing (empty_replica (stamp_of 0 1))) ≡ Ok (standing (empty_replica (stamp_of 0 1)))
created_again = refl

created_too_late : create 4 16 (stamp_of 0 9) (standing (empty_replica (stamp_of 2 1))) ≡ Err refusals.Old
created_too_late = refl

no_replica_comes_back : create 4 16 (stamp_of 2 1) (dropped (sealed_replica (stamp_of 2 1))) ≡ Err refusals.Old
no_replica_comes_back = refl

a_dropped_seal_goes_to_the_trash : drop_replica (stamp_of 2 1) (standing (sealed_replica (stamp_of 2 1))) ≡ Ok (dropped (sealed_replica (stamp_of 2 1)))
a_dropped_seal_goes_to_the_trash = refl

a_later_replica_stands_beside_it : create 4 16 (stamp_of 2 2) (dropped (sealed_replica (stamp_of 2 1))) ≡ Ok (record { promise = stamp_of 2 2; carried = false; live = Some (sound (empty_replica (stamp_of 2 2))); trash = Some (sealed_replica (stamp_of 2 1)); taken = None })
a_later_replica_stands_beside_it = refl

an_unsealed_one_is_gone : drop_replica (stamp_of 2 1) (standing (empty_replica (stamp_of 2 1))) ≡ Ok (record { promise = stamp_of 2 1; carried = false; live = None; trash = None; taken = None })
an_unsealed_one_is_gone = refl

dropped_by_another_stamp : drop_replica (stamp_of 2 2) (standing (empty_replica (stamp_of 2 1))) ≡ Err (refusals.Stamp (stamp_of 2 1))
dropped_by_another_stamp = refl

nothing_to_drop : drop_replica (stamp_of 2 1) (dropped (sealed_replica (stamp_of 2 1))) ≡ Err refusals.NoReplica
nothing_to_drop = refl

advanced : advance (stamp_of 2 2) (standing (empty_replica (stamp_of 2 1))) ≡ Ok (standing (empty_replica (stamp_of 2 2)))
advanced = refl

not_back : advance (stamp_of 1 9) (standing (empty_replica (stamp_of 2 1))) ≡ Err refusals.Old
not_back = refl

nothing_to_advance : advance (stamp_of 2 2) (dropped (sealed_replica (stamp_of 2 1))) ≡ Err refusals.NoReplica
nothing_to_advance = refl

a_bad_replica_is_not_advanced : advance (stamp_of 2 2) (mark_bad 3 (standing (empty_replica (stamp_of 2 1)))) ≡ Err (refusals.Damaged 3)
a_bad_replica_is_not_advanced = refl

a_lease_is_taken_once : take_lease (stamp_of 2 1) (taking (stamp_of 2 1) (standing (empty_replica (stamp_of 2 1)))) ≡ Err refusals.Old
a_lease_is_taken_once = refl

lost_from_the_trash : lose (dropped (sealed_replica (stamp_of 2 1))) ≡ Ok (lost (dropped (sealed_replica (stamp_of 2 1))))
lost_from_the_trash = refl

nothing_to_lose : lose nothing ≡ Err refusals.NoReplica
nothing_to_lose = refl

no_block_to_damage : damage 0 (standing (empty_replica (stamp_of 2 1))) ≡ Err refusals.Range
no_block_to_damage = refl
