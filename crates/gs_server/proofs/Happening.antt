-- What an event makes of a chunk's place: one call of its slot, or none.
use Rattle.std.proofs.Common.{◌≡◌, ℕ, ◌+◌, Bool, true, false, cond, List, [], ◌∷◌, Option, Some, None, refl, sym, ap, subst, ◌∙◌, inl, inr, true≢false}
use Rattle.std.specs.Prelude.{Result, Ok, Err, ◌==◌, ◌&&◌, is_some, option_map}
use Rattle.std.proofs.lemmas.Bool.{eqb-true, eq-eqb}
use Rattle.std.specs.FinMap as fin
use Rattle.std.specs.Ordering.{nat_cmp}
use Rattle.std.specs.Cmp.{nat_cmp_total, eq_by_cmp_equiv}
use Rattle.gs_base.specs.declared.numbers.Moment.{Moment}
use Rattle.gs_base.specs.declared.numbers.Stamp.{Stamp}
use Rattle.gs_base.specs.declared.numbers.ReqId.{ReqId}
use Rattle.gs_base.specs.declared.epoch.EpochEnd.{EpochEnd}
use Rattle.gs_base.specs.declared.epoch.EpochEnd.TheVariants.{Prepare, Finalize, Rollback}
use Rattle.gs_base.specs.declared.refusal.Refusal.{Refusal}
use Rattle.gs_base.specs.declared.refusal.Refusal.TheVariants as refusals
use Rattle.gs_block.specs.Stored.{Stored}
use Rattle.gs_block.specs.Edits as blocks
use Rattle.gs_replica.specs.Edits.{copied, held_of}
use Rattle.gs_replica.specs.Seals.{State, lowest_damaged}
use Rattle.gs_replica.specs.Seals as replicas
use Rattle.gs_replica.specs.Held.{Held}
use Rattle.gs_replica.specs.Copies.{and_then}
use Rattle.gs_msg.specs.declared.node.NodeId.{NodeId}
use Rattle.gs_msg.specs.declared.node.NodeId.TheVariants as nodes
use Rattle.gs_msg.specs.declared.message.Message.{Message}
use Rattle.gs_msg.specs.declared.body.Body.{Body}
use Rattle.gs_msg.specs.declared.body.Body.TheVariants as bodies
use Rattle.gs_msg.specs.declared.chunk.Chunk.{Chunk}
use Rattle.gs_store.specs.Slots.{Live, Slot, first_of, unless, unless_promised, unless_live, if_bad}
use Rattle.gs_store.specs.Slots as slots
use Rattle.gs_store.specs.Moves as moves
use Rattle.gs_store.specs.Stores.{Store, or_nothing, slot_of, set_slot, with_slot, put_slot}
use Rattle.gs_store.specs.Calls.{Call, TakesCopy, Seals, Unseals, RollsBack, called, IsNoLease}
use Rattle.gs_store.specs.Calls as calls
use Rattle.gs_store.proofs.Laws.{Holds, of_cond}
use Rattle.gs_store.proofs.Standing.{of_live, of_trash, same_ok}
use Rattle.gs_store.proofs.StoreLaws.{own_slot, other_slot, not_ok}
use Rattle.gs_server_lease.specs.Leases.{PrimaryLease, tell}
use Rattle.gs_server.specs.Lifts.{gone_on}
use Rattle.gs_server.specs.Places.{Place, Here, Part, SlotChange, SlotStays, SlotBecomes, SlotMarked, LeaseChange, LeaseStays, LeaseBecomes, LeaseSpent, after, slot_after, lease_after, marked_by, damaged_block, other_epoch, promising}
use Rattle.gs_server.specs.Promises as messages
use Rattle.gs_server.specs.Promises.{Copying}
use Rattle.gs_server.specs.Servers.{Server, Step, place_of, here_of, store_of, change_slot, change_lease, changed_by, with_store, in_store, copies, request_in, about_chunk, handle_chunk, handle_body, learned, stands_at}
use Rattle.gs_server.specs.inner.Learning.{next_of}
use Rattle.gs_server.specs.Runs.{Event, Hears, Ticks, Restarts, Loses, Damages, unless_refused, behind, slot_in, carries_seal, reseals, reseals_by, Spares}
use Rattle.gs_server.proofs.Others.{other_changed, used_slots, rest_stays}
use Rattle.gs_server.proofs.Lifts.{ticked_is, restarted_is, place_goes}
use Rattle.gs_server.proofs.Walks.{GoesOn, Goes, Suits, IsWithin, OfHeld, brought, same_lease, of_same, stays, marks, about, of_epoch, promise_lease, lease_of_promise}

-- ---- a message about a chunk makes of its place what its part says

own_mark : (handle block : ℕ) (t : Store) (o : Option Slot) → fin.get t.slots handle ≡ o → slot_of handle (set_slot handle t (option_map (slots.mark_bad block) o)) ≡ slots.mark_bad block (or_nothing o)
own_mark handle block t None is = ap or_nothing is
own_mark handle block t (Some slot) is = own_slot handle (slots.mark_bad block slot) t

own_changed : (handle : ℕ) (change : SlotChange) (t : Store) → slot_of handle (change_slot handle change t) ≡ slot_after (slot_of handle t) change
own_changed handle SlotStays t = refl
own_changed handle (SlotBecomes slot) t = own_slot handle slot t
own_changed handle (SlotMarked block) t = own_mark handle block t (fin.get t.slots handle) refl

own_lease : (handle : ℕ) (change : LeaseChange) (leases : fin.FinMap nat_cmp PrimaryLease) → fin.get (change_lease handle change leases) handle ≡ lease_after (fin.get leases handle) change
own_lease handle LeaseStays leases = refl
own_lease handle (LeaseBecomes l) leases = fin.get-insert nat_cmp_total leases handle l handle ∙ ap (λ b. cond b (Some l) (fin.get leases handle)) ((eq_by_cmp_equiv nat_cmp_total).refl handle)
own_lease handle LeaseSpent leases = fin.get-remove nat_cmp_total leases handle handle ∙ ap (λ b. cond b None (fin.get leases handle)) ((eq_by_cmp_equiv nat_cmp_total).refl handle)

abbrev at_place : Slot → Option PrimaryLease → Place
at_place slot lease = record { slot = slot; lease = lease }

pub own_place : (handle : ℕ) (req : Option ReqId) (part : Part) (s : Server) → place_of handle (changed_by handle req part s) ≡ after (place_of handle s) part
own_place handle req part s =
    ap (λ (x : Slot). at_place x (fin.get (change_lease handle part.lease s.dropped.leases) handle)) (used_slots req part.used (change_slot handle part.slot (store_of s)) handle ∙ own_changed handle part.slot (store_of s))
    ∙ ap (λ (l : Option PrimaryLease). at_place (slot_after (slot_of handle (store_of s)) part.slot) l) (own_lease handle part.lease s.dropped.leases)

-- ---- the shape of what is to be shown of an event

-- a copy has the bytes of a live replica
pub record IsCopied (s : Server) (h : Held) : Type 0 where
  pub from : ℕ
  pub live : Live
  pub stands : (slot_in from s).live ≡ Some live
  pub same : h.chunk ≡ live.replica.held.chunk

abbrev Fits : ℕ → Event → Server → Call → Type 0
Fits q e s = Suits (behind e s).kept.epoch (reseals q e s) (IsCopied s) (Spares q e s) (slot_in q s)

abbrev pub GoesAt : ℕ → Event → Server → Type 0
GoesAt q e s = Goes s.block s.chunk (Fits q e s) (place_of q s) (place_of q (behind e s))

-- where the place is the same
unmoved : (block chunk : ℕ) (P : Call → Type 0) (p q : Place) → q ≡ p → Goes block chunk P p q
unmoved block chunk P p q is = subst (Goes block chunk P p) (sym is) (stays block chunk P p)

-- where the calls are said less of
pub weaker : (block chunk : ℕ) (P Q : Call → Type 0) (p q : Place) → ((c : Call) → P c → Q c) → Goes block chunk P p q → Goes block chunk Q p q
weaker block chunk P Q p q each (inl still) = inl still
weaker block chunk P Q p q each (inr (inl m)) = inr (inl (record { call = m.call; is = m.is; no_lease = m.no_lease; fits = each m.call m.fits; lease = m.lease; promised = m.promised }))
weaker block chunk P Q p q each (inr (inr t)) = inr (inr t)

none_comes : (Comes : Held → Type 0) (o : Option Held) → OfHeld (λ _. ⊥) o → OfHeld Comes o
none_comes Comes None none = tt
none_comes Comes (Some h) none = absurd none

suits_with : (epoch now : ℕ) (carries reseals : Bool) (Comes : Held → Type 0) (Spared : Type 0) (s : Slot) → now ≡ epoch → (reseals ≡ false → carries ≡ false) → (c : Call) → Suits epoch carries (λ _. ⊥) (Unit {0}) s c → Suits now reseals Comes Spared s c
suits_with epoch now carries reseals Comes Spared s same less c suits = record {
  seal = λ is. suits.seal (less is);
  spares = λ _. suits.spares tt;
  within = subst (λ n. IsWithin n c) (sym same) suits.within;
  comes = none_comes Comes (brought c) suits.comes;
}

-- ---- messages

abbrev BodyGoes : ℕ → Server → NodeId → Body → Moment → Type 0
BodyGoes q s from body moment =
    Goes s.block s.chunk (Suits (handle_body s from body moment).after.kept.epoch (reseals_by q s body) (IsCopied s) (Unit {0}) (slot_in q s)) (place_of q s) (place_of q (handle_body s from body moment).after)

not_carried : (q handle : ℕ) (carries : Bool) → (q == handle) ≡ true → ((q == handle) && carries) ≡ false → carries ≡ false
not_carried q handle carries same none = subst (λ b. (b && carries) ≡ false) same none

own_chunk : (handle : ℕ) (s : Server) (from : NodeId) (chunk : Chunk) (moment : Moment) → BodyGoes handle s from (bodies.About handle chunk) moment
own_chunk handle s from chunk moment =
    let h : Here = here_of s moment handle (request_in chunk) in
    let part : Part = about_chunk h (place_of handle s) from chunk in
    subst (Goes s.block s.chunk (Suits (handle_chunk s from handle chunk moment).after.kept.epoch ((handle == handle) && carries_seal chunk) (IsCopied s) (Unit {0}) (slot_in handle s)) (place_of handle s)) (sym (own_place handle (request_in chunk) part s))
    (weaker s.block s.chunk (Suits s.kept.epoch (carries_seal chunk) (λ _. ⊥) (Unit {0}) (slot_in handle s)) (Suits (handle_chunk s from handle chunk moment).after.kept.epoch ((handle == handle) && carries_seal chunk) (IsCopied s) (Unit {0}) (slot_in handle s))
    (place_of handle s) (after (place_of handle s) part)
    (suits_with s.kept.epoch (handle_chunk s from handle chunk moment).after.kept.epoch (carries_seal chunk) ((handle == handle) && carries_seal chunk) (IsCopied s) (Unit {0}) (slot_in handle s) (rest_stays handle (request_in chunk) part s).epoch
    (not_carried handle handle (carries_seal chunk) (eq-eqb handle handle refl)))
    (about h (place_of handle s) from chunk))

chunk_goes : (q : ℕ) (s : Server) (from : NodeId) (handle : ℕ) (chunk : Chunk) (moment : Moment) → BodyGoes q s from (bodies.About handle chunk) moment
chunk_goes q s from handle chunk moment = by_case (q == handle) refl
  where
    by_case : (b : Bool) → (q == handle) ≡ b → BodyGoes q s from (bodies.About handle chunk) moment
    by_case true is = subst (λ k. BodyGoes k s from (bodies.About handle chunk) moment) (sym (eqb-true q handle is)) (own_chunk handle s from chunk moment)
    by_case false apart =
        unmoved s.block s.chunk _ (place_of q s) (place_of q (handle_chunk s from handle chunk moment).after)
        ((rest_stays handle (request_in chunk) (about_chunk (here_of s moment handle (request_in chunk)) (place_of handle s) from chunk) s).places q apart)

-- a copy under a new handle
pub record IsCopyOf (stamp : Stamp) (source : Option Live) (target t : Slot) : Type 0 where
  pub held : Held
  pub is : moves.take_copy held target ≡ Ok t
  pub promise : held.promise ≡ stamp
  pub live : Live
  pub stands : source ≡ Some live
  pub same : held.chunk ≡ live.replica.held.chunk

undamaged_same : (o : Option ℕ) (a b : Stored) → blocks.unless_damaged o a ≡ Ok b → b ≡ a
undamaged_same None a b is = same_ok a b is
undamaged_same (Some index) a b is = absurd (not_ok (refusals.Damaged index) b is)

held_copy : (stamp : Stamp) (target t : Slot) (v : Live) (n : Result Stored Refusal) → blocks.copied v.replica.held.chunk ≡ n → and_then (held_of stamp v.replica.held.count v.replica.held.done n) (λ h. moves.take_copy h target) ≡ Ok t → IsCopyOf stamp (Some v) target t
held_copy stamp target t v (Ok c) copied is =
    let h : Held = v.replica.held in
    record { held = record { chunk = c; count = h.count; done = h.done; promise = stamp }; is = is; promise = refl; live = v; stands = refl; same = undamaged_same (lowest_damaged h.chunk) h.chunk c copied }
held_copy stamp target t v (Err e) copied is = absurd (not_ok e t is)

made_copy : (stamp : Stamp) (target t : Slot) (source : Option Live) (o : Option Refusal) → and_then (and_then (unless o (moves.live_in source)) (λ r. copied stamp r.held)) (λ h. moves.take_copy h target) ≡ Ok t → IsCopyOf stamp source target t
made_copy stamp target t source (Some e) is = absurd (not_ok e t is)
made_copy stamp target t None None is = absurd (not_ok refusals.NoReplica t is)
made_copy stamp target t (Some v) None is = held_copy stamp target t v (blocks.copied v.replica.held.chunk) refl is

-- what is refused marks the source alone
source_marked : (q handle : ℕ) (s : Server) (now : ℕ) (reseals : Bool) (o : Option ℕ)
    → Goes s.block s.chunk (Suits now reseals (IsCopied s) (Unit {0}) (slot_in q s)) (place_of q s) (place_of q (with_store (change_slot handle (marked_by o) (store_of s)) s))
source_marked q handle s now reseals o = by_case (q == handle) refl
  where
    by_case : (b : Bool) → (q == handle) ≡ b → Goes s.block s.chunk (Suits now reseals (IsCopied s) (Unit {0}) (slot_in q s)) (place_of q s) (place_of q (with_store (change_slot handle (marked_by o) (store_of s)) s))
    by_case true is =
        subst (λ k. Goes s.block s.chunk (Suits now reseals (IsCopied s) (Unit {0}) (slot_in k s)) (place_of k s) (place_of k (with_store (change_slot handle (marked_by o) (store_of s)) s))) (sym (eqb-true q handle is))
        (subst (λ (x : Slot). Goes s.block s.chunk (Suits now reseals (IsCopied s) (Unit {0}) (slot_in handle s)) (place_of handle s) (at_place x (fin.get s.dropped.leases handle))) (sym (own_changed handle (marked_by o) (store_of s)))
        (marks s.block s.chunk now reseals (IsCopied s) (Unit {0}) (place_of handle s) o))
    by_case false apart =
        unmoved s.block s.chunk _ (place_of q s) (place_of q (with_store (change_slot handle (marked_by o) (store_of s)) s))
        (ap (λ (x : Slot). at_place x (fin.get s.dropped.leases q)) (other_changed handle q (marked_by o) (store_of s) apart))

-- what is made is the target's
target_made : (q handle new_handle : ℕ) (s : Server) (stamp : Stamp) (t : Slot) (sent : List Message) (reseals : Bool) → IsCopyOf stamp (slot_in handle s).live (slot_in new_handle s) t → stamp.epoch ≡ s.kept.epoch
    → Goes s.block s.chunk (Suits s.kept.epoch reseals (IsCopied s) (Unit {0}) (slot_in q s)) (place_of q s) (place_of q (changed_by new_handle None (promising t (place_of new_handle s) sent) s))
target_made q handle new_handle s stamp t sent reseals copy here = by_case (q == new_handle) refl
  where
    by_case : (b : Bool) → (q == new_handle) ≡ b → Goes s.block s.chunk (Suits s.kept.epoch reseals (IsCopied s) (Unit {0}) (slot_in q s)) (place_of q s) (place_of q (changed_by new_handle None (promising t (place_of new_handle s) sent) s))
    by_case true is =
        subst (λ k. Goes s.block s.chunk (Suits s.kept.epoch reseals (IsCopied s) (Unit {0}) (slot_in k s)) (place_of k s) (place_of k (changed_by new_handle None (promising t (place_of new_handle s) sent) s))) (sym (eqb-true q new_handle is))
        (subst (Goes s.block s.chunk (Suits s.kept.epoch reseals (IsCopied s) (Unit {0}) (slot_in new_handle s)) (place_of new_handle s)) (sym (own_place new_handle None (promising t (place_of new_handle s) sent) s))
        (inr (inl (record {
          call = TakesCopy copy.held;
          is = copy.is;
          no_lease = tt;
          fits = record { seal = λ _. tt; spares = λ _. tt; within = ap (λ (p : Stamp). p.epoch) copy.promise ∙ here; comes = record { from = handle; live = copy.live; stands = copy.stands; same = copy.same } };
          lease = promise_lease t.promise (fin.get s.dropped.leases new_handle);
          promised = λ _. lease_of_promise t.promise (fin.get s.dropped.leases new_handle);
        }))))
    by_case false apart =
        unmoved s.block s.chunk _ (place_of q s) (place_of q (changed_by new_handle None (promising t (place_of new_handle s) sent) s))
        ((rest_stays new_handle None (promising t (place_of new_handle s) sent) s).places q apart)

abbrev MadeBy : ℕ → Server → ℕ → ℕ → Copying → Type 0
MadeBy q s handle new_handle copying =
    Goes s.block s.chunk (Suits (copies handle new_handle copying s).after.kept.epoch false (IsCopied s) (Unit {0}) (slot_in q s)) (place_of q s) (place_of q (copies handle new_handle copying s).after)

copy_made : (q : ℕ) (s : Server) (handle : ℕ) (at : Stamp) (new_handle : ℕ) (stamp : Stamp) (h new : Here) (m : Result Slot Refusal) → moves.make_copy at stamp (slot_in handle s) (slot_in new_handle s) ≡ m → stamp.epoch ≡ s.kept.epoch
    → MadeBy q s handle new_handle (messages.copies h (place_of handle s) new (place_of new_handle s) stamp m)
copy_made q s handle at new_handle stamp h new (Ok t) is here = target_made q handle new_handle s stamp t (messages.promised new stamp t ∷ []) false
    (made_copy stamp (slot_in new_handle s) t (slot_in handle s).live (first_of (unless_promised at (slot_in handle s) ∷ unless_live (slot_in handle s).live ∷ if_bad (slot_in handle s).live ∷ [])) is) here
copy_made q s handle at new_handle stamp h new (Err e) is here = source_marked q handle s _ false (damaged_block e)

copy_in_epoch : (q : ℕ) (s : Server) (handle : ℕ) (at : Stamp) (new_handle : ℕ) (stamp : Stamp) (h new : Here) (o : Option Refusal) → (o ≡ None → stamp.epoch ≡ s.kept.epoch)
    → MadeBy q s handle new_handle (messages.or_copy o (messages.not_copied h (place_of handle s) new stamp) (messages.copies h (place_of handle s) new (place_of new_handle s) stamp (moves.make_copy at stamp (slot_in handle s) (slot_in new_handle s))))
copy_in_epoch q s handle at new_handle stamp h new None here = copy_made q s handle at new_handle stamp h new (moves.make_copy at stamp (slot_in handle s) (slot_in new_handle s)) refl (here refl)
copy_in_epoch q s handle at new_handle stamp h new (Some e) here = source_marked q handle s _ false (damaged_block e)

copy_goes : (q : ℕ) (s : Server) (from : NodeId) (handle : ℕ) (at : Stamp) (new_handle : ℕ) (stamp : Stamp) (moment : Moment) → BodyGoes q s from (bodies.MakeCopy handle at new_handle stamp) moment
copy_goes q s from handle at new_handle stamp moment =
    let h : Here = here_of s moment handle None in
    copy_in_epoch q s handle at new_handle stamp h (here_of s moment new_handle None) (other_epoch h stamp.epoch) (of_epoch h stamp.epoch)

-- the end of an epoch
abbrev pub step_if : ℕ → EpochEnd → Server → Bool → Bool → Step
step_if epoch end s here next =
    cond here (learned s epoch end s) (cond next (learned s epoch end (next_of epoch end s))
    (record { after = s; sent = tell s.me nodes.Master (bodies.Behind s.kept.epoch) ∷ []; said = Some (refusals.Epoch s.kept.epoch) }))

gone : (block chunk epoch : ℕ) (end : EpochEnd) (Comes : Held → Type 0) (p : Place) → Goes block chunk (Suits epoch true Comes (Unit {0}) p.slot) p (gone_on end epoch p)
gone block chunk epoch Prepare Comes p = inr (inl (record { call = Seals; is = refl; no_lease = tt; fits = record { seal = λ no. absurd (true≢false no); spares = λ _. tt; within = tt; comes = tt }; lease = same_lease p.lease; promised = λ of. of }))
gone block chunk epoch Finalize Comes p = inr (inl (record { call = Unseals; is = refl; no_lease = tt; fits = record { seal = λ no. absurd (true≢false no); spares = λ _. tt; within = tt; comes = tt }; lease = same_lease p.lease; promised = λ of. of }))
gone block chunk epoch Rollback Comes p = inr (inl (record { call = RollsBack epoch; is = refl; no_lease = tt; fits = record { seal = λ no. absurd (true≢false no); spares = λ _. tt; within = refl; comes = tt }; lease = tt; promised = λ _. tt }))

learn_if : (q epoch : ℕ) (end : EpochEnd) (s : Server) (here next : Bool)
    → Goes s.block s.chunk (Suits (step_if epoch end s here next).after.kept.epoch next (IsCopied s) (Unit {0}) (slot_in q s)) (place_of q s) (place_of q (step_if epoch end s here next).after)
learn_if q epoch end s true next = stays s.block s.chunk _ (place_of q s)
learn_if q epoch end s false true = subst (Goes s.block s.chunk (Suits epoch true (IsCopied s) (Unit {0}) (slot_in q s)) (place_of q s)) (sym (place_goes q epoch end s)) (gone s.block s.chunk epoch end (IsCopied s) (place_of q s))
learn_if q epoch end s false false = stays s.block s.chunk _ (place_of q s)

body_goes : (q : ℕ) (s : Server) (from : NodeId) (body : Body) (moment : Moment) → BodyGoes q s from body moment
body_goes q s from (bodies.About handle chunk) moment = chunk_goes q s from handle chunk moment
body_goes q s from (bodies.Push req bytes) moment = stays s.block s.chunk _ (place_of q s)
body_goes q s from (bodies.MakeCopy handle at new_handle stamp) moment = copy_goes q s from handle at new_handle stamp moment
body_goes q s from (bodies.Epoch epoch end) moment = learn_if q epoch end s (epoch == s.kept.epoch) (epoch == s.kept.epoch + 1)
body_goes q s from (bodies.Call req call) moment = stays s.block s.chunk _ (place_of q s)
body_goes q s from (bodies.Reply req result) moment = stays s.block s.chunk _ (place_of q s)
body_goes q s from (bodies.Done req result) moment = stays s.block s.chunk _ (place_of q s)
body_goes q s from (bodies.Bytes req result) moment = stays s.block s.chunk _ (place_of q s)
body_goes q s from (bodies.Report epoch replicas) moment = stays s.block s.chunk _ (place_of q s)
body_goes q s from (bodies.Learned epoch handles) moment = stays s.block s.chunk _ (place_of q s)
body_goes q s from (bodies.Behind epoch) moment = stays s.block s.chunk _ (place_of q s)

-- ---- other events

lease_if : (b : Bool) (lease : Option PrimaryLease) → GoesOn lease (cond b lease None)
lease_if true lease = same_lease lease
lease_if false lease = tt

-- a loss or a damage of one handle, which leaves its promise
lost_promise : (s : Slot) → Holds (λ (t : Slot). t.promise ≡ s.promise) (slots.lose s)
lost_promise s =
    of_cond (λ (t : Slot). t.promise ≡ s.promise) (is_some s.live) (Ok (slots.lost s)) (cond (is_some s.trash) (Ok (slots.lost s)) (Err refusals.NoReplica)) (λ _. refl)
    (λ _. of_cond (λ (t : Slot). t.promise ≡ s.promise) (is_some s.trash) (Ok (slots.lost s)) (Err refusals.NoReplica) (λ _. refl) (λ _. tt))

damaged_promise : (block : ℕ) (s : Slot) (live : Option Live) (trash : Option State) → Holds (λ (t : Slot). t.promise ≡ s.promise) (slots.damage_of block s live trash)
damaged_promise block s None None = tt
damaged_promise block s None (Some r) = of_trash (λ (t : Slot). t.promise ≡ s.promise) s (replicas.damage block r) (λ q e. refl)
damaged_promise block s (Some l) trash = of_live (λ (t : Slot). t.promise ≡ s.promise) s l.bad (replicas.damage block l.replica) (λ q e. refl)

put_goes : (q handle : ℕ) (s : Server) (P : Call → Type 0) (c : Call) (m : Result Slot Refusal) → called s.block s.chunk c (slot_in handle s) ≡ m → IsNoLease c → Holds (λ (t : Slot). t.promise ≡ (slot_in handle s).promise) m → ((q == handle) ≡ true → P c)
    → Goes s.block s.chunk P (place_of q s) (place_of q (unless_refused s (in_store s (put_slot handle (store_of s) m))))
put_goes q handle s P c (Err e) is no_lease kept fits = stays s.block s.chunk P (place_of q s)
put_goes q handle s P c (Ok t) is no_lease kept fits = by_case (q == handle) refl
  where
    by_case : (b : Bool) → (q == handle) ≡ b → Goes s.block s.chunk P (place_of q s) (place_of q (with_store (with_slot handle t (store_of s)) s))
    by_case true same =
        subst (λ k. Goes s.block s.chunk P (place_of k s) (place_of k (with_store (with_slot handle t (store_of s)) s))) (sym (eqb-true q handle same))
        (subst (λ (x : Slot). Goes s.block s.chunk P (place_of handle s) (at_place x (fin.get s.dropped.leases handle))) (sym (own_slot handle t (store_of s)))
        (inr (inl (record { call = c; is = is; no_lease = no_lease; fits = fits same; lease = same_lease (fin.get s.dropped.leases handle); promised = of_same (slot_in handle s) t (fin.get s.dropped.leases handle) kept }))))
    by_case false apart =
        unmoved s.block s.chunk P (place_of q s) (place_of q (with_store (with_slot handle t (store_of s)) s))
        (ap (λ (x : Slot). at_place x (fin.get s.dropped.leases q)) (other_slot handle q t (store_of s) apart))

pub goes_at : (q : ℕ) (e : Event) (s : Server) → GoesAt q e s
goes_at q (Hears message moment) s = body_goes q s message.from message.body moment
goes_at q (Ticks moment) s =
    subst (Goes s.block s.chunk (Fits q (Ticks moment) s) (place_of q s)) (sym (ticked_is q s moment))
    (inl (record { slot = refl; lease = lease_if (stands_at moment (fin.get s.dropped.leases q)) (fin.get s.dropped.leases q) }))
goes_at q Restarts s = subst (Goes s.block s.chunk (Fits q Restarts s) (place_of q s)) (sym (restarted_is q s)) (inl (record { slot = refl; lease = tt }))
goes_at q (Loses handle) s =
    put_goes q handle s (Fits q (Loses handle) s) calls.Loses (slots.lose (slot_in handle s)) refl tt (lost_promise (slot_in handle s)) (λ same. record { seal = λ none. absurd (true≢false (sym same ∙ none)); spares = λ _. tt; within = tt; comes = tt })
goes_at q (Damages handle block) s =
    put_goes q handle s (Fits q (Damages handle block) s) (calls.Damages block) (slots.damage block (slot_in handle s)) refl tt (damaged_promise block (slot_in handle s) (slot_in handle s).live (slot_in handle s).trash) (λ same. record { seal = λ _. tt; spares = λ spare. spare same; within = tt; comes = tt })
