-- Copies of replicas: what a server sends of one, and what it makes of one that it is sent.
use Rattle.std.specs.Prelude.{◌≡◌, ◌⊎◌, ℕ, cond, Bool, true, false, [], ◌∷◌, Option, Some, None, is_some, Result, Ok, Err, refl}
use Rattle.gs_base.specs.declared.numbers.Stamp.{Stamp}
use Rattle.gs_base.specs.Stamps.{is_before}
use Rattle.gs_base.specs.declared.refusal.Refusal.{Refusal}
use Rattle.gs_base.specs.declared.refusal.Refusal.TheVariants as refusals
use Rattle.gs_replica.specs.Edits.{fresh, copied}
use Rattle.gs_replica.specs.Held.{Held}
use Rattle.gs_replica.specs.Seals.{Sealed, State, lowest_damaged}
use Rattle.gs_replica.specs.Copies.{Image, SealedImage, image, as_sealed, of_image, of_sealed, and_then}
use Rattle.gs_store.specs.Slots.{Live, Slot, first_of, unless, unless_live, unless_promised, if_bad, sealed_of, replaced, again, mark_bad, nothing, standing, dropped, sound, empty_replica, sealed_replica, stamp_of}

-- a sealed image goes along where each block that undoing gives has its sealed digest
abbrev pub unless_lost : Option ℕ → SealedImage → Option SealedImage
unless_lost None i = Some i
unless_lost (Some block) i = None

abbrev pub sound_image : Option Sealed → Option SealedImage
sound_image None = None
sound_image (Some t) = unless_lost (lowest_damaged t.undone) (as_sealed t)

-- what is copied of a slot: its live replica, unless another promise is named or it is bad
abbrev pub live_in : Option Live → Result State Refusal
live_in None = Err refusals.NoReplica
live_in (Some l) = Ok l.replica

abbrev pub source : Stamp → Slot → Result State Refusal
source at s = unless (first_of (unless_promised at s ∷ unless_live s.live ∷ if_bad s.live ∷ [])) (live_in s.live)

-- it is sent, perhaps with the handle's sealed image, wherever that stands
abbrev pub copy_out : Stamp → Bool → Slot → Result (Image × Option SealedImage) Refusal
copy_out stamp flag s = and_then (source stamp s) (λ r. and_then (image r) (λ i. Ok (i, cond flag (sound_image (sealed_of s)) None)))

-- a sealed image that is carried takes the place of the handle's own in the trash
abbrev pub carried_in : ℕ → ℕ → Option SealedImage → Result (Option State) Refusal
carried_in block chunk None = Ok None
carried_in block chunk (Some i) = and_then (of_sealed block chunk i) (λ t. Ok (Some t))

abbrev pub in_trash : Option State → Slot → Slot
in_trash None s = s
in_trash (Some t) s = record { promise = s.promise; carried = s.carried; live = s.live; trash = Some t; taken = s.taken }

-- the replicas that images become
abbrev pub replicas_of : ℕ → ℕ → Stamp → Image → Option SealedImage → Result (State × Option State) Refusal
replicas_of block chunk stamp image sealed = and_then (of_image block chunk stamp image) (λ r. and_then (carried_in block chunk sealed) (λ t. Ok (r, t)))

abbrev pub copied_in : ℕ → ℕ → Stamp → Image → Option SealedImage → Slot → Result Slot Refusal
copied_in block chunk stamp image sealed s = and_then (replicas_of block chunk stamp image sealed) (λ p. Ok (in_trash p.1 (replaced stamp (is_some sealed) p.0 s)))

abbrev pub copy_in : ℕ → ℕ → Stamp → Image → Option SealedImage → Slot → Result Slot Refusal
copy_in block chunk stamp image sealed s = cond (is_before s.promise stamp) (copied_in block chunk stamp image sealed s) (again stamp s)

-- a copy of a live replica for another handle, under that one's stamp
abbrev pub copied_from : Stamp → Stamp → Slot → Result Held Refusal
copied_from at stamp s = and_then (source at s) (λ r. copied stamp r.held)

abbrev pub take_copy : Held → Slot → Result Slot Refusal
take_copy h target = cond (is_before target.promise h.promise) (Ok (replaced h.promise false (record { held = h; sealed = None }) target)) (again h.promise target)

-- what a slot is made of another handle's: the source is judged first
abbrev pub make_copy : Stamp → Stamp → Slot → Slot → Result Slot Refusal
make_copy at stamp source target = and_then (copied_from at stamp source) (λ h. take_copy h target)

-- what is made for it beforehand: nothing where the target has promised the stamp already
abbrev pub wanted_by : Slot → Held → Result (Option Held) Refusal
wanted_by target h = cond (is_before target.promise h.promise) (Ok (Some h)) (and_then (again h.promise target) (λ s. Ok None))

abbrev pub copy_for : Stamp → Stamp → Slot → Slot → Result (Option Held) Refusal
copy_for at stamp source target = and_then (copied_from at stamp source) (wanted_by target)

-- what is made beforehand is what the target takes
abbrev pub Prepares : Result Slot Refusal → Slot → Result (Option Held) Refusal → Type 0
Prepares made target (Ok None) = made ≡ Ok target
Prepares made target (Ok (Some h)) = made ≡ take_copy h target
Prepares made target (Err e) = (made ≡ Err e) ⊎ (e ≡ refusals.Memory)

nothing_to_send : copy_out (stamp_of 0 0) true nothing ≡ Err refusals.NoReplica
nothing_to_send = refl

sent_under_another_stamp : copy_out (stamp_of 2 2) true (standing (empty_replica (stamp_of 2 1))) ≡ Err (refusals.Stamp (stamp_of 2 1))
sent_under_another_stamp = refl

no_copy_of_a_bad_replica : copy_out (stamp_of 2 1) true (mark_bad 3 (standing (empty_replica (stamp_of 2 1)))) ≡ Err (refusals.Damaged 3)
no_copy_of_a_bad_replica = refl

nor_for_another_handle : copy_for (stamp_of 2 1) (stamp_of 2 2) (mark_bad 3 (standing (empty_replica (stamp_of 2 1)))) nothing ≡ Err (refusals.Damaged 3)
nor_for_another_handle = refl

-- a copy onto a handle whose sealed image is in the trash leaves it there
the_trash_stays : take_copy (fresh 4 16 (stamp_of 2 2)) (dropped (sealed_replica (stamp_of 2 1))) ≡ Ok (record { promise = stamp_of 2 2; carried = false; live = Some (sound (empty_replica (stamp_of 2 2))); trash = Some (sealed_replica (stamp_of 2 1)); taken = None })
the_trash_stays = refl

-- and so does one onto a replica that is sealed
the_seal_goes_to_the_trash : take_copy (fresh 4 16 (stamp_of 2 2)) (standing (sealed_replica (stamp_of 2 1))) ≡ Ok (record { promise = stamp_of 2 2; carried = false; live = Some (sound (empty_replica (stamp_of 2 2))); trash = Some (sealed_replica (stamp_of 2 1)); taken = None })
the_seal_goes_to_the_trash = refl

a_copy_of_an_old_stamp : take_copy (fresh 4 16 (stamp_of 2 1)) (standing (empty_replica (stamp_of 2 2))) ≡ Err refusals.Old
a_copy_of_an_old_stamp = refl

-- the source's refusals come before the target's
judged_before_the_target : copy_for (stamp_of 2 9) (stamp_of 2 1) (standing (empty_replica (stamp_of 2 1))) (standing (empty_replica (stamp_of 2 2))) ≡ Err (refusals.Stamp (stamp_of 2 1))
judged_before_the_target = refl

then_the_target : copy_for (stamp_of 2 1) (stamp_of 2 1) (standing (empty_replica (stamp_of 2 1))) (standing (empty_replica (stamp_of 2 2))) ≡ Err refusals.Old
then_the_target = refl

promised_already : copy_for (stamp_of 2 1) (stamp_of 2 2) (standing (empty_replica (stamp_of 2 1))) (standing (empty_replica (stamp_of 2 2))) ≡ Ok None
promised_already = refl

made_for_an_empty_slot : copy_for (stamp_of 2 1) (stamp_of 2 2) (standing (empty_replica (stamp_of 2 1))) nothing ≡ Ok (Some (fresh 4 16 (stamp_of 2 2)))
made_for_an_empty_slot = refl
