-- What is live after a rollback is named.
use Rattle.std.proofs.Common.{◌≡◌, ℕ, ◌+◌, Bool, true, false, List, [], ◌∷◌, Option, Some, None, Ok, refl, sym, ap, subst, ◌∙◌, arith}
use Rattle.std.specs.Prelude.{Contains, length, is_none, is_some, not, ◌==◌, ◌&&◌, ◌||◌}
use Rattle.std.specs.List.{list_any}
use Rattle.std.proofs.lemmas.Bool.{eqb-true, eq-eqb}
use Rattle.std.proofs.lemmas.Map.Views.{Contains-from_any}
use Rattle.std.specs.FinMap as fin
use Rattle.std.specs.Ordering.{nat_cmp, eq_by_cmp}
use Rattle.gs_base.specs.declared.numbers.Stamp.{Stamp}
use Rattle.gs_base.specs.declared.epoch.EpochEnd.TheVariants.{Rollback}
use Rattle.gs_base.specs.Stamps.{is_before, is_same}
use Rattle.gs_block.specs.Edits.{unless_damaged}
use Rattle.gs_block.specs.Stored.{Stored, IsStored, are_digests, count_of, first_damaged}
use Rattle.gs_block.proofs.Back.{eq_true}
use Rattle.gs_replica.specs.Seals.{Sealed, State, lowest_damaged, roll_back_to}
use Rattle.gs_replica.specs.Copies.{as_sealed}
use Rattle.gs_replica.specs.Stands.{Edit}
use Rattle.gs_store.specs.Slots.{Live, Slot, first_stamp, sealed_of}
use Rattle.gs_store.specs.Whole.{IsWholeSlot, LiveWhole}
use Rattle.gs_store.specs.Moves.{unless_lost, sound_image}
use Rattle.gs_store_seal.specs.Rollback.{later}
use Rattle.gs_store.specs.Learning.{start_of, rolled_to, rolled_back, is_named, is_sound}
use Rattle.gs_store.specs.Stores.{Store, or_nothing, slot_of, learn, named, named_of}
use Rattle.gs_store.specs.StoreCalls.{names}
use Rattle.gs_store.specs.Standing.{StandsIn, StoodIn, LiveStandsFor, LiveUndamaged}
use Rattle.gs_store.proofs.Keys.{passes, any_key}
use Rattle.gs_store.proofs.Places.{same_key, other_key}
use Rattle.gs_store.proofs.Rolling.{named_whole}
use Rattle.gs_store.proofs.Sealing.{back}
use Rattle.gs_store.proofs.StoreLaws.{taught, slot_goes}

-- handles that tie are the same
pub ties : (q k : ℕ) → (q == k) ≡ eq_by_cmp nat_cmp q k
ties q k = by_case (eq_by_cmp nat_cmp q k) refl
  where
    apart : (b : Bool) → (q == k) ≡ b → eq_by_cmp nat_cmp q k ≡ false → b ≡ false
    apart true is other = absurd (other_key q k other (eqb-true q k is))
    apart false is other = refl

    by_case : (b : Bool) → eq_by_cmp nat_cmp q k ≡ b → (q == k) ≡ b
    by_case true is = eq-eqb q k (same_key q k is)
    by_case false is = apart (q == k) refl is

any_tied : (q : ℕ) (ks : List ℕ) → list_any (λ k. q == k) ks ≡ list_any (eq_by_cmp nat_cmp q) ks
any_tied q [] = refl
any_tied q (k ∷ ks) = ap (λ b. b || list_any (λ x. q == x) ks) (ties q k) ∙ ap (λ b. eq_by_cmp nat_cmp q k || b) (any_tied q ks)

and_none : (b : Bool) → (b && false) ≡ false
and_none true = refl
and_none false = refl

and_all : (b : Bool) → (b && true) ≡ b
and_all true = refl
and_all false = refl

named_or_nothing : (epoch : ℕ) (o : Option Slot) → passes (is_named epoch) o ≡ is_named epoch (or_nothing o)
named_or_nothing epoch None = sym (and_none (is_same first_stamp (start_of epoch)))
named_or_nothing epoch (Some t) = refl

-- a handle is named where its slot is
pub names_slot : (handle epoch : ℕ) (s : Store) → names handle epoch s ≡ is_named epoch (slot_of handle s)
names_slot handle epoch s =
    any_tied handle (named_of epoch (fin.entries s.slots))
    ∙ any_key fin.nat_cmp-IsAntisymmetric (is_named epoch) handle (fin.entries s.slots) (fin.entries_sorted s.slots)
    ∙ ap (passes (is_named epoch)) (sym (fin.get-entries s.slots handle)) ∙ named_or_nothing epoch (fin.get s.slots handle)

pub named_there : (handle epoch : ℕ) (s : Store) → is_named epoch (slot_of handle s) ≡ true → Contains (named epoch s) handle
named_there handle epoch s is = Contains-from_any eqb-true handle (named epoch s) (names_slot handle epoch s ∙ is)

-- a chunk of which no block is damaged has the digests of its blocks
stored_sound : (s : Stored) → IsStored s → lowest_damaged s ≡ None → are_digests s.block s.bytes s.digests ≡ true
stored_sound s stored undamaged =
    let counted : length s.digests ≡ count_of s.block (length s.bytes) = stored.each in
    let none : first_damaged s.block s.bytes s.digests 0 (count_of s.block (length s.bytes)) ≡ None = subst (λ n. first_damaged s.block s.bytes s.digests 0 n ≡ None) counted undamaged in
    ap (λ b. b && is_none (first_damaged s.block s.bytes s.digests 0 (count_of s.block (length s.bytes)))) (eq_true (length s.digests) (count_of s.block (length s.bytes)) counted) ∙ ap is_none none

pub live_sound : (block chunk : ℕ) (live : Option Live) (xs : List Edit) → LiveStandsFor block chunk live xs → LiveUndamaged live → is_sound live ≡ true
live_sound block chunk None xs stands undamaged = elim stands [ ]
live_sound block chunk (Some l) xs stands undamaged = let w = stands.bytes in stored_sound l.replica.held.chunk w.stored undamaged

pub whole_sound : (live : Option Live) → is_some live ≡ true → LiveWhole live → LiveUndamaged live → is_sound live ≡ true
whole_sound None some whole undamaged = absurd (cc)
whole_sound (Some l) some whole undamaged = stored_sound l.replica.held.chunk whole.stands undamaged

live_at : (p : Stamp) (s : Slot) (t : Sealed) (r : State) (d : Option ℕ) → is_some (rolled_to p (unless_damaged d r) s).live ≡ is_some (unless_lost d (as_sealed t))
live_at p s t r None = refl
live_at p s t r (Some k) = refl

live_of : (p : Stamp) (s : Slot) (o : Option Sealed) → is_some (rolled_to p (roll_back_to p o) s).live ≡ is_some (sound_image o)
live_of p s None = refl
live_of p s (Some t) = live_at p s t (record { held = record { chunk = t.undone; count = t.count; done = t.done; promise = p }; sealed = None }) (lowest_damaged t.undone)

went : (epoch : ℕ) (s s2 : Store) → epoch ≡ s.epoch + 1 → learn epoch Rollback s ≡ Ok s2 → (handle : ℕ) → slot_of handle s2 ≡ rolled_back epoch (slot_of handle s)
went epoch s s2 next is = taught (λ (x : Store). (handle : ℕ) → slot_of handle x ≡ rolled_back epoch (slot_of handle s)) epoch Rollback s s2 is (λ here. absurd (omega arith)) (λ _. slot_goes epoch Rollback s)

pub live_is : (epoch handle : ℕ) (s s2 : Store) → epoch ≡ s.epoch + 1 → learn epoch Rollback s ≡ Ok s2 → is_some (slot_of handle s2).live ≡ is_some (sound_image (sealed_of (slot_of handle s)))
live_is epoch handle s s2 next is =
    let t : Slot = slot_of handle s in
    ap (λ (x : Slot). is_some x.live) (went epoch s s2 next is handle) ∙ live_of (later t.promise (start_of epoch)) t (sealed_of t)

pub named_is : (epoch handle : ℕ) (s s2 : Store) → epoch ≡ s.epoch + 1 → learn epoch Rollback s ≡ Ok s2 → IsWholeSlot (slot_of handle s) → is_before (start_of epoch) (slot_of handle s).promise ≡ false → names handle epoch s2 ≡ is_some (slot_of handle s2).live
named_is epoch handle s s2 next is whole low =
    let t : Slot = slot_of handle s in
    names_slot handle epoch s2 ∙ ap (is_named epoch) (went epoch s s2 next is handle) ∙ named_whole epoch t whole
    ∙ ap (λ b. is_some (sound_image (sealed_of t)) && not b) low ∙ and_all (is_some (sound_image (sealed_of t))) ∙ sym (live_is epoch handle s s2 next is)

same_sizes : (epoch : ℕ) (s s2 : Store) → learn epoch Rollback s ≡ Ok s2 → (s2.block ≡ s.block) × (s2.chunk ≡ s.chunk)
same_sizes epoch s s2 is = taught (λ (x : Store). (x.block ≡ s.block) × (x.chunk ≡ s.chunk)) epoch Rollback s s2 is (λ _. (refl, refl)) (λ _. (refl, refl))

pub sealed_is : (epoch handle : ℕ) (s s2 : Store) (edits : List Edit) → epoch ≡ s.epoch + 1 → learn epoch Rollback s ≡ Ok s2 → StoodIn s.block s.chunk (slot_of handle s) edits → is_some (slot_of handle s2).live ≡ true →
    StandsIn s2.block s2.chunk (slot_of handle s2) edits × LiveUndamaged (slot_of handle s2).live
sealed_is epoch handle s s2 edits next is stood live =
    let t : Slot = slot_of handle s in
    let sizes = same_sizes epoch s s2 is in
    subst (λ b. StandsIn b s2.chunk (slot_of handle s2) edits × LiveUndamaged (slot_of handle s2).live) (sym sizes.0)
    (subst (λ c. StandsIn s.block c (slot_of handle s2) edits × LiveUndamaged (slot_of handle s2).live) (sym sizes.1)
    (subst (λ x. StandsIn s.block s.chunk x edits × LiveUndamaged x.live) (sym (went epoch s s2 next is handle))
    (back s.block s.chunk edits epoch t stood (subst (λ (x : Slot). is_some x.live ≡ true) (went epoch s s2 next is handle) live))))
