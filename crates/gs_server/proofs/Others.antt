-- A message about a chunk leaves all others.
use Rattle.std.proofs.Common.{◌≡◌, ℕ, Bool, true, false, cond, [], ◌∷◌, Option, Some, None, refl, sym, ap, ◌∙◌, ◌&&◌, arith}
use Rattle.std.specs.Prelude.{◌==◌, option_map}
use Rattle.std.proofs.lemmas.Bool.{false≢true, eq-eqb}
use Rattle.std.specs.FinMap as fin
use Rattle.std.specs.Ordering.{nat_cmp, eq_by_cmp}
use Rattle.std.specs.Cmp.{nat_cmp_total}
use Rattle.std.proofs.lemmas.Cmp.{on_total}
use Rattle.std.specs.Map.{lookup, remove_entry}
use Rattle.std.proofs.lemmas.Bool.Decides.{nat_tests}
use Rattle.gs_base.specs.declared.numbers.ClientId.{ClientId}
use Rattle.gs_base.specs.declared.numbers.ReqId.{ReqId}
use Rattle.gs_store.specs.Slots.{Slot}
use Rattle.gs_store.specs.Slots as slots
use Rattle.gs_store.specs.Buffers.{Pushes, pushed, same_request}
use Rattle.gs_store.specs.Stores.{Store, slot_of, set_slot}
use Rattle.gs_store.proofs.StoreLaws.{other_slot}
use Rattle.gs_store.proofs.Places.{same_key}
use Rattle.gs_server.specs.declared.turn.KeptRefusal.{KeptRefusal}
use Rattle.gs_server.specs.Laws.{LeavesTheRest, LeavesAllBut, is_of_client, is_asked_by}
use Rattle.gs_server_lease.specs.Leases.{PrimaryLease}
use Rattle.gs_server.specs.Places.{Part, SlotChange, SlotStays, SlotBecomes, SlotMarked, LeaseChange, LeaseStays, LeaseBecomes, LeaseSpent}
use Rattle.gs_server.specs.Servers.{Server, client_cmp, place_of, store_of, change_slot, change_lease, change_buffer, keep_refusal, changed_by, with_store, copies}
use Rattle.gs_server.specs.Promises.{Copying}

other_set : (handle other : ℕ) (t : Store) (marked : Option Slot) → (other == handle) ≡ false → slot_of other (set_slot handle t marked) ≡ slot_of other t
other_set handle other t None apart = refl
other_set handle other t (Some slot) apart = other_slot handle other slot t apart

pub other_changed : (handle other : ℕ) (change : SlotChange) (t : Store) → (other == handle) ≡ false → slot_of other (change_slot handle change t) ≡ slot_of other t
other_changed handle other SlotStays t apart = refl
other_changed handle other (SlotBecomes slot) t apart = other_slot handle other slot t apart
other_changed handle other (SlotMarked block) t apart = other_set handle other t (option_map (slots.mark_bad block) (fin.get t.slots handle)) apart

-- ---- leases

other_eq : (q k : ℕ) → (q == k) ≡ false → eq_by_cmp nat_cmp q k ≡ false
other_eq q k is = by_case (eq_by_cmp nat_cmp q k) refl
  where
    by_case : (b : Bool) → eq_by_cmp nat_cmp q k ≡ b → b ≡ false
    by_case true tied = absurd (false≢true (sym is ∙ eq-eqb q k (same_key q k tied)))
    by_case false apart = refl

pub other_lease : (handle other : ℕ) (change : LeaseChange) (leases : fin.FinMap nat_cmp PrimaryLease) → (other == handle) ≡ false → fin.get (change_lease handle change leases) other ≡ fin.get leases other
other_lease handle other LeaseStays leases apart = refl
other_lease handle other (LeaseBecomes l) leases apart = fin.get-insert nat_cmp_total leases handle l other ∙ ap (λ b. cond b (Some l) (fin.get leases other)) (other_eq other handle apart)
other_lease handle other LeaseSpent leases apart = fin.get-remove nat_cmp_total leases handle other ∙ ap (λ b. cond b None (fin.get leases other)) (other_eq other handle apart)

-- ---- what was pushed, and refused

apart_from : (a b c d e f : ℕ) → ((a == b) && (c == d)) ≡ true → ((a == e) && (c == f)) ≡ false → ((e == b) && (f == d)) ≡ false
apart_from a b c d e f same apart = grind (arith, nat_tests)

pushed_still : (req other : ReqId) (es : Pushes) → same_request req other ≡ false → lookup (same_request other) (remove_entry (same_request req) es) ≡ lookup (same_request other) es
pushed_still req other [] apart = refl
pushed_still req other (e ∷ es) apart = by_case (same_request req e.0) refl (pushed_still req other es apart)
  where
    by_case : (b : Bool) → same_request req e.0 ≡ b → lookup (same_request other) (remove_entry (same_request req) es) ≡ lookup (same_request other) es
        → lookup (same_request other) (cond b es (e ∷ remove_entry (same_request req) es)) ≡ cond (same_request other e.0) (Some e.1) (lookup (same_request other) es)
    by_case true is rest = sym (ap (λ b. cond b (Some e.1) (lookup (same_request other) es)) (apart_from req.client.0 e.0.client.0 req.number e.0.number other.client.0 other.number is apart))
    by_case false is rest = ap (λ x. cond (same_request other e.0) (Some e.1) x) rest

pub other_pushes : (asked : Option ReqId) (used : Bool) (t : Store) (other : ReqId) → is_asked_by other asked ≡ false → pushed other (change_buffer asked used t).buffer ≡ pushed other t.buffer
other_pushes None used t other apart = refl
other_pushes (Some req) true t other apart = pushed_still req other t.buffer apart
other_pushes (Some req) false t other apart = refl

pub other_refusals : (asked : Option ReqId) (kept : Option KeptRefusal) (refused : fin.FinMap client_cmp KeptRefusal) (client : ClientId) → is_of_client client asked ≡ false → fin.get (keep_refusal asked kept refused) client ≡ fin.get refused client
other_refusals None kept refused client apart = refl
other_refusals (Some req) None refused client apart = refl
other_refusals (Some req) (Some k) refused client apart = fin.get-insert (on_total (λ (c : ClientId). c.0) nat_cmp_total) refused req.client k client ∙ ap (λ b. cond b (Some k) (fin.get refused client)) apart

-- ---- the whole message

pub used_slots : (asked : Option ReqId) (used : Bool) (t : Store) (other : ℕ) → slot_of other (change_buffer asked used t) ≡ slot_of other t
used_slots None used t other = refl
used_slots (Some req) true t other = refl
used_slots (Some req) false t other = refl

used_epoch : (asked : Option ReqId) (used : Bool) (t : Store) → (change_buffer asked used t).epoch ≡ t.epoch
used_epoch None used t = refl
used_epoch (Some req) true t = refl
used_epoch (Some req) false t = refl

set_epoch : (handle : ℕ) (t : Store) (marked : Option Slot) → (set_slot handle t marked).epoch ≡ t.epoch
set_epoch handle t None = refl
set_epoch handle t (Some slot) = refl

pub slot_epoch : (handle : ℕ) (change : SlotChange) (t : Store) → (change_slot handle change t).epoch ≡ t.epoch
slot_epoch handle SlotStays t = refl
slot_epoch handle (SlotBecomes slot) t = refl
slot_epoch handle (SlotMarked block) t = set_epoch handle t (option_map (slots.mark_bad block) (fin.get t.slots handle))

set_buffer : (handle : ℕ) (t : Store) (marked : Option Slot) → (set_slot handle t marked).buffer ≡ t.buffer
set_buffer handle t None = refl
set_buffer handle t (Some slot) = refl

slot_buffer : (handle : ℕ) (change : SlotChange) (t : Store) → (change_slot handle change t).buffer ≡ t.buffer
slot_buffer handle SlotStays t = refl
slot_buffer handle (SlotBecomes slot) t = refl
slot_buffer handle (SlotMarked block) t = set_buffer handle t (option_map (slots.mark_bad block) (fin.get t.slots handle))

pub rest_stays : (handle : ℕ) (asked : Option ReqId) (part : Part) (s : Server) → LeavesTheRest handle asked s (changed_by handle asked part s)
rest_stays handle asked part s = record {
  places = λ other apart. place_same other apart;
  epoch = used_epoch asked part.used (change_slot handle part.slot (store_of s)) ∙ slot_epoch handle part.slot (store_of s);
  refused = λ client apart. other_refusals asked part.kept s.kept.refused client apart;
  pushes = λ other apart. other_pushes asked part.used (change_slot handle part.slot (store_of s)) other apart ∙ ap (pushed other) (slot_buffer handle part.slot (store_of s));
}
  where
    place_same : (other : ℕ) → (other == handle) ≡ false → place_of other (changed_by handle asked part s) ≡ place_of other s
    place_same other apart =
        ap (λ (x : Slot). record { slot = x; lease = fin.get (change_lease handle part.lease s.dropped.leases) other }) (used_slots asked part.used (change_slot handle part.slot (store_of s)) other ∙ other_changed handle other part.slot (store_of s) apart)
        ∙ ap (λ (l : Option PrimaryLease). record { slot = slot_of other (store_of s); lease = l }) (other_lease handle other part.lease s.dropped.leases apart)

pub copy_leaves : (handle new_handle : ℕ) (copying : Copying) (s : Server) → LeavesAllBut handle new_handle s (copies handle new_handle copying s).after
copy_leaves handle new_handle copying s =
    let marked : Server = with_store (change_slot handle copying.source (store_of s)) s in
    let rest = rest_stays new_handle None copying.target marked in
    record {
      places = λ other apart new_apart. rest.places other new_apart ∙ ap (λ (x : Slot). record { slot = x; lease = fin.get s.dropped.leases other }) (other_changed handle other copying.source (store_of s) apart);
      epoch = rest.epoch ∙ slot_epoch handle copying.source (store_of s);
      refused = refl;
      pushes = slot_buffer new_handle copying.target.slot (store_of marked) ∙ slot_buffer handle copying.source (store_of s);
    }
