-- What is promised again, and what is dropped.
use Rattle.std.proofs.Common.{◌≡◌, ℕ, Bool, true, false, cond, not, [], ◌∷◌, Option, Some, None, refl, sym, ap, subst, ◌∙◌, true≢false, arith}
use Rattle.std.specs.Prelude.{Result, Ok, Err, ◌==◌, ◌&&◌, is_some}
use Rattle.std.proofs.lemmas.Bool.Decides.{nat_tests}
use Rattle.gs_base.specs.declared.numbers.Moment.{Moment}
use Rattle.gs_base.specs.declared.numbers.Stamp.{Stamp}
use Rattle.gs_base.specs.Stamps.{is_before, is_same}
use Rattle.gs_base.specs.declared.refusal.Refusal.{Refusal}
use Rattle.gs_base.specs.declared.refusal.Refusal.TheVariants as refusals
use Rattle.gs_replica.specs.Copies.{Image, SealedImage}
use Rattle.gs_replica.specs.Edits.{fresh}
use Rattle.gs_replica.specs.Held.{Held}
use Rattle.gs_replica.specs.Seals.{State}
use Rattle.gs_msg.specs.declared.node.NodeId.{NodeId}
use Rattle.gs_msg.specs.declared.chunk.Chunk.TheVariants as chunks
use Rattle.gs_store.specs.Slots.{Slot, first_of, when, unless_live, unless_promised, replaced, removed, again}
use Rattle.gs_store.specs.Slots as slots
use Rattle.gs_store.specs.Moves as moves
use Rattle.gs_store.proofs.Laws.{Holds, of_ok, of_unless, of_raised}
use Rattle.gs_server_lease.specs.Leases.{PrimaryLease}
use Rattle.gs_server.specs.Places.{Place, Here, Part, LeaseStays, LeaseSpent, after, lease_after, of_promise, or_else, other_epoch, unanswered}
use Rattle.gs_server.specs.Promises as messages
use Rattle.gs_server.specs.Servers.{Server, place_of, here_of, handle_chunk}
use Rattle.gs_server.specs.Runs.{slot_in, IsReached}
use Rattle.gs_server.proofs.Happening.{own_place}
use Rattle.gs_laws_server.proofs.lemmas.servers.Waiting.{IsOf, of_promise_at}

-- ---- on the slot

raised_again : (stamp : Stamp) (r : State) (s s2 : Slot) → is_before s.promise stamp ≡ false → cond (is_before s.promise stamp) (Ok (replaced stamp false r s)) (again stamp s) ≡ Ok s2 → s2 ≡ s
raised_again stamp r s s2 below is =
    of_ok (λ (x : Slot). x ≡ s) (cond (is_before s.promise stamp) (Ok (replaced stamp false r s)) (again stamp s)) s2 is (of_raised (λ (x : Slot). x ≡ s) stamp false r s refl (λ above. absurd (true≢false (sym above ∙ below))))

pub created_again : (block chunk : ℕ) (stamp : Stamp) (s s2 : Slot) → is_before s.promise stamp ≡ false → slots.create block chunk stamp s ≡ Ok s2 → s2 ≡ s
created_again block chunk stamp s s2 below is = raised_again stamp (record { held = fresh block chunk stamp; sealed = None }) s s2 below is

pub taken_again : (h : Held) (s s2 : Slot) → is_before s.promise h.promise ≡ false → moves.take_copy h s ≡ Ok s2 → s2 ≡ s
taken_again h s s2 below is = raised_again h.promise (record { held = h; sealed = None }) s s2 below is

-- ---- at a server, where a lease that is held is of the promise

same_itself : (a : Stamp) → is_same a a ≡ true
same_itself a = grind (arith, nat_tests)

kept_lease : (promise : Stamp) (lease : Option PrimaryLease) → IsOf promise lease → lease_after lease (of_promise promise lease) ≡ lease
kept_lease promise None of = refl
kept_lease promise (Some l) of = ap (λ b. lease_after (Some l) (cond b LeaseStays LeaseSpent)) (ap (λ (x : Stamp). is_same x promise) of ∙ same_itself promise)

module _ (h : Here) (p : Place) (stamp : Stamp) (of : IsOf p.slot.promise p.lease) where
  found : (b : Bool) → after p (messages.promises h p stamp (cond b (Ok p.slot) (Err refusals.Old))) ≡ p
  found true = ap (λ (l : Option PrimaryLease). (let q : Place = record { slot = p.slot; lease = l } in q)) (kept_lease p.slot.promise p.lease of)
  found false = refl

  in_epoch : (test : Bool) (part : Part) → after p part ≡ p → after p (or_else (when test (refusals.Epoch h.epoch)) (messages.unpromised h p stamp) part) ≡ p
  in_epoch true part is = refl
  in_epoch false part is = is

  promised_again : (made : Result Slot Refusal) → is_before p.slot.promise stamp ≡ false → after p (or_else (other_epoch h stamp.epoch) (messages.unpromised h p stamp) (messages.promises h p stamp (cond (is_before p.slot.promise stamp) made (again stamp p.slot)))) ≡ p
  promised_again made below =
      in_epoch (not (stamp.epoch == h.epoch)) (messages.promises h p stamp (cond (is_before p.slot.promise stamp) made (again stamp p.slot)))
      (subst (λ b. after p (messages.promises h p stamp (cond b made (again stamp p.slot))) ≡ p) (sym below) (found (is_same stamp p.slot.promise && is_some p.slot.live)))

pub create_again : (s : Server) (from : NodeId) (handle : ℕ) (stamp : Stamp) (moment : Moment) → IsReached s → is_before (slot_in handle s).promise stamp ≡ false → place_of handle (handle_chunk s from handle (chunks.Create stamp) moment).after ≡ place_of handle s
create_again s from handle stamp moment reached below =
    let h : Here = here_of s moment handle None in
    let p : Place = place_of handle s in
    own_place handle None (messages.create h p stamp) s ∙ promised_again h p stamp (of_promise_at handle s reached) _ below

pub copy_again : (s : Server) (from : NodeId) (handle : ℕ) (stamp : Stamp) (image : Image) (sealed : Option SealedImage) (moment : Moment) → IsReached s → is_before (slot_in handle s).promise stamp ≡ false
    → place_of handle (handle_chunk s from handle (chunks.CopyIn stamp image sealed) moment).after ≡ place_of handle s
copy_again s from handle stamp image sealed moment reached below =
    let h : Here = here_of s moment handle None in
    let p : Place = place_of handle s in
    own_place handle None (messages.copy_in h p stamp image sealed) s ∙ promised_again h p stamp (of_promise_at handle s reached) (moves.copied_in h.block h.chunk stamp image sealed p.slot) below

-- ---- a replica that is dropped

abbrev Gone : Place → Type 0
Gone p = (p.lease ≡ None) × (p.slot.live ≡ None)

drops_all : (p : Place) (m : Result Slot Refusal) → Holds (λ (x : Slot). x.live ≡ None) m → (messages.drops m).said ≡ None → Gone (after p (messages.drops m))
drops_all p (Ok s) gone said = (refl, gone)
drops_all p (Err e) gone said = absurd (cc)

drops_in : (p : Place) (o : Option Refusal) (m : Result Slot Refusal) → Holds (λ (x : Slot). x.live ≡ None) m → (or_else o unanswered (messages.drops m)).said ≡ None → Gone (after p (or_else o unanswered (messages.drops m)))
drops_in p None m gone said = drops_all p m gone said
drops_in p (Some e) m gone said = absurd (cc)

pub dropped_gone : (h : Here) (p : Place) (epoch : ℕ) (promise : Stamp) → (messages.drop_replica h p epoch promise).said ≡ None → Gone (after p (messages.drop_replica h p epoch promise))
dropped_gone h p epoch promise said =
    drops_in p (other_epoch h epoch) (slots.drop_replica promise p.slot) (of_unless (λ (x : Slot). x.live ≡ None) (first_of (unless_promised promise p.slot ∷ unless_live p.slot.live ∷ [])) (removed p.slot) (λ _. refl)) said
