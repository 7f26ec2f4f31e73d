-- The edits that wait under a lease, event by event.
use Rattle.std.proofs.Common.{◌≡◌, ◌≤◌, ◌<◌, ℕ, suc, ◌+◌, Bool, true, false, cond, not, List, [], ◌∷◌, ◌++◌, length, Option, Some, None, refl, sym, ap, subst, ◌∙◌, inl, inr, arith}
use Rattle.std.specs.Prelude.{Result, Ok, Err, ◌⊎◌, ◌==◌, nat_lt, nat_le, filter}
use Rattle.std.specs.List.{All}
use Rattle.std.specs.FinMap as fin
use Rattle.std.specs.Ordering.{nat_cmp, eq_by_cmp}
use Rattle.std.specs.Cmp.{nat_cmp_total}
use Rattle.std.proofs.Math.ListN.{length-set}
use Rattle.std.proofs.lemmas.Bool.{eqb-true, eq-eqb, false≢true}
use Rattle.std.proofs.lemmas.Bool.Decides.{nat_tests}
use Rattle.std.proofs.lemmas.List.Elements.{All-nil, All-head, All-tail, All-push, All-weaker, All-filter}
use Rattle.std.proofs.lemmas.List.Kept.{AllPairs-cons, AllPairs-filter}
use Rattle.gs_base.specs.declared.numbers.Moment.{Moment}
use Rattle.gs_base.specs.declared.numbers.Stamp.{Stamp}
use Rattle.gs_base.specs.declared.numbers.ReqId.{ReqId}
use Rattle.gs_base.specs.Stamps.{is_same}
use Rattle.gs_base.specs.declared.epoch.EpochEnd.{EpochEnd}
use Rattle.gs_base.specs.declared.epoch.EpochEnd.TheVariants.{Prepare, Finalize, Rollback}
use Rattle.gs_base.specs.declared.refusal.Refusal.{Refusal}
use Rattle.gs_base.specs.declared.refusal.Refusal.TheVariants as refusals
use Rattle.gs_lease.specs.declared.held.Grant.{Grant}
use Rattle.gs_replica.specs.Copies.{Image, SealedImage}
use Rattle.gs_replica.specs.Held.{Held}
use Rattle.gs_replica.specs.declared.op.Done.{Done}
use Rattle.gs_replica.specs.declared.op.EditOutcome.TheVariants.{Padded}
use Rattle.gs_msg.specs.declared.op.Op.{Op}
use Rattle.gs_msg.specs.Ops.{in_replica}
use Rattle.gs_msg.specs.declared.node.NodeId.{NodeId}
use Rattle.gs_msg.specs.declared.node.NodeId.TheVariants as nodes
use Rattle.gs_msg.specs.declared.message.Message.{Message}
use Rattle.gs_msg.specs.declared.body.Body.{Body}
use Rattle.gs_msg.specs.declared.body.Body.TheVariants as bodies
use Rattle.gs_msg.specs.declared.body.Given.{Given}
use Rattle.gs_msg.specs.declared.chunk.Chunk.{Chunk}
use Rattle.gs_msg.specs.declared.chunk.Chunk.TheVariants as chunks
use Rattle.gs_store.specs.Slots.{Live, Slot, first_of, unless_live, unless_promised, check_grant, take_lease}
use Rattle.gs_store.specs.Slots as slots
use Rattle.gs_store.specs.Serving.{apply, done_in}
use Rattle.gs_store.specs.Moves as moves
use Rattle.gs_store.specs.Stores.{put_slot, with_slot}
use Rattle.gs_store.specs.Calls.{Call, Loses, Damages}
use Rattle.gs_store.proofs.Places.{same_key}
use Rattle.gs_server.specs.declared.turn.KeptRefusal.{KeptRefusal}
use Rattle.gs_server_lease.specs.declared.lease.Open.{Open}
use Rattle.gs_server_lease.specs.Leases.{PrimaryLease, renews, settled, hears, heard, dones, is_acknowledged, waits_for, opens_edit}
use Rattle.gs_server_lease.specs.Numbering.{is_passed}
use Rattle.gs_server.specs.Places.{Place, Here, Part, SlotChange, SlotStays, SlotBecomes, SlotMarked, LeaseChange, LeaseStays, LeaseBecomes, LeaseSpent, slot_after, lease_after, marked_by, damaged_block, of_promise, or_else, other_epoch, unanswered, sending, promising}
use Rattle.gs_server.specs.Promises as messages
use Rattle.gs_server.specs.Promises.{Copying}
use Rattle.gs_server.specs.Holding.{takes, goes_on, supplies_to, from_server, unless_leased, is_held}
use Rattle.gs_server.specs.Holding as holding
use Rattle.gs_server.specs.Edits.{edit, new_edit, refused_edit, refused_once, repeated, is_known_of_all, unless_kept, unless_done, unless_numbered, numbers_or_passes, bytes_of, bytes_or_none, declines}
use Rattle.gs_server.specs.Edits as edits
use Rattle.gs_server.specs.Fetches as fetching
use Rattle.gs_server.specs.Servers.{Server, new, place_of, here_of, store_of, change_slot, change_lease, changed_by, with_store, in_store, copies, request_in, about_chunk, push, handle_body, restart, standing_leases, stands_at}
use Rattle.gs_server.specs.inner.Learning.{next_of}
use Rattle.gs_server.specs.Runs.{Event, Hears, Ticks, Restarts, unless_refused, behind, behind_all, slot_in, IsReached}
use Rattle.gs_server.specs.Runs as runs
use Rattle.gs_server.proofs.Happening.{own_place, step_if}
use Rattle.gs_server.proofs.Reached.{held_promise}
use Rattle.gs_laws_server.specs.servers.Editing.{numbered_edit}
use Rattle.gs_laws_server.specs.servers.Waiting.{AreRising, AreCounted}
use Rattle.gs_laws_server.specs.servers.Calling.{numbered_call, asked_call, made_by, call_at, copy_taken, first_call, end_call, heard_call, if_done, call_by}
use Rattle.gs_laws_server.proofs.lemmas.servers.Counting.{AreApplied, Counts, CountsNext, IsNoRollback, NoRollback, applied_counts, counts}
use Rattle.gs_laws_server.proofs.lemmas.servers.Calling.{event_calls}

-- ---- what is kept of a lease

pub record IsOrdered (live : Option Live) (l : PrimaryLease) : Type 0 where
  pub rises : AreRising l.outbox
  pub counted : AreApplied live l.outbox
  pub told : length l.told ≡ 16

abbrev pub Ordered : Option Live → Option PrimaryLease → Type 0
Ordered live None = Unit {0}
Ordered live (Some l) = IsOrdered live l

-- ---- a lease that goes on has the edits that waited, or fewer

record Shrinks (l new : PrimaryLease) : Type 0 where
  stamp : new.grant.stamp ≡ l.grant.stamp
  rises : AreRising l.outbox → AreRising new.outbox
  fewer : (live : Option Live) → AreApplied live l.outbox → AreApplied live new.outbox
  told : length new.told ≡ length l.told

fewer_applied : (p : (ℕ × Open) → Bool) (xs : List (ℕ × Open)) (live : Option Live) → AreApplied live xs → AreApplied live (filter p xs)
fewer_applied p xs None each = tt
fewer_applied p xs (Some v) each = All-filter p (λ (e : ℕ × Open). e.0 ≤ v.replica.held.count) xs each

renewing : (end : Moment) (l : PrimaryLease) → Shrinks l (renews end l)
renewing end l = record { stamp = refl; rises = λ up. up; fewer = λ live each. each; told = refl }

hearing : (server count : ℕ) (l : PrimaryLease) → Shrinks l (settled (hears server count l))
hearing server count l =
    let now : PrimaryLease = hears server count l in
    record {
      stamp = refl;
      rises = λ up. AllPairs-filter (λ (a b : ℕ × Open). a.0 < b.0) (λ (e : ℕ × Open). not (is_acknowledged now e.0)) l.outbox up;
      fewer = λ live each. fewer_applied (λ (e : ℕ × Open). not (is_acknowledged now e.0)) l.outbox live each;
      told = simp length-set;
    }

-- ---- an edit that is numbered waits behind all others

pairs_push : (xs : List (ℕ × Open)) (y : ℕ × Open) → AreRising xs → All (λ (x : ℕ × Open). x.0 < y.0) xs → AreRising (xs ++ y ∷ [])
pairs_push [] y up low = AllPairs-cons (λ (a b : ℕ × Open). a.0 < b.0) y [] (All-nil (λ (b : ℕ × Open). y.0 < b.0)) up
pairs_push (x ∷ xs) y up low =
    let head : All (λ (b : ℕ × Open). x.0 < b.0) xs = λ k d within. up 0 (suc k) d (omega arith) (omega arith) in
    let tail : AreRising xs = λ i j d below within. up (suc i) (suc j) d (omega arith) (omega arith) in
    AllPairs-cons (λ (a b : ℕ × Open). a.0 < b.0) x (xs ++ y ∷ [])
    (All-push (λ (b : ℕ × Open). x.0 < b.0) xs y head (All-head (λ (z : ℕ × Open). z.0 < y.0) x xs low))
    (pairs_push xs y tail (All-tail (λ (z : ℕ × Open). z.0 < y.0) x xs low))

not_there : (number other : ℕ) → other < number → (number == other) ≡ false
not_there number other below = grind (arith, nat_tests)

waits_last : (g : Grant) (told : List ℕ) (xs : List (ℕ × Open)) (number : ℕ) (e : Open) → All (λ (x : ℕ × Open). x.0 < number) xs → (waits_for number e (record { grant = g; told = told; outbox = xs })).outbox ≡ xs ++ (number, e) ∷ []
waits_last g told [] number e low = refl
waits_last g told (x ∷ xs) number e low =
    ap (λ b. cond b ((x.0, e) ∷ xs) (x ∷ (waits_for number e (record { grant = g; told = told; outbox = xs })).outbox)) (not_there number x.0 (All-head (λ (z : ℕ × Open). z.0 < number) x xs low))
    ∙ ap (λ es. x ∷ es) (waits_last g told xs number e (All-tail (λ (z : ℕ × Open). z.0 < number) x xs low))

record Opens (s t : Slot) (l new : PrimaryLease) : Type 0 where
  live : Live
  lives : s.live ≡ Some live
  me : ℕ
  edit : Open
  is : new ≡ opens_edit me (live.replica.held.count + 1) edit l
  counts : CountsNext (live.replica.held.count + 1) t

below_next : (count : ℕ) (xs : List (ℕ × Open)) → AreCounted count xs → All (λ (x : ℕ × Open). x.0 < count + 1) xs
below_next count xs each = All-weaker (λ (x : ℕ × Open). x.0 ≤ count) (λ x. x.0 < count + 1) (λ x low. next x.0 low) xs each
  where
    next : (n : ℕ) → n ≤ count → n < count + 1
    next n low = omega arith

up_to_next : (count : ℕ) (xs : List (ℕ × Open)) → AreCounted count xs → AreCounted (count + 1) xs
up_to_next count xs each = All-weaker (λ (x : ℕ × Open). x.0 ≤ count) (λ x. x.0 ≤ count + 1) (λ x low. next x.0 low) xs each
  where
    next : (n : ℕ) → n ≤ count → n ≤ count + 1
    next n low = omega arith

last_counted : (count : ℕ) (e : Open) (xs : List (ℕ × Open)) → AreCounted count xs → AreCounted (count + 1) (xs ++ (count + 1, e) ∷ [])
last_counted count e xs each = All-push (λ (x : ℕ × Open). x.0 ≤ count + 1) xs (count + 1, e) (up_to_next count xs each) (let same : count + 1 ≤ count + 1 = omega arith in same)

opened_ordered : (t : Slot) (me count : ℕ) (e : Open) (l : PrimaryLease) (test : Bool) → CountsNext (count + 1) t → AreRising l.outbox → AreCounted count l.outbox → length l.told ≡ 16
    → IsOrdered t.live (cond test (hears me (count + 1) l) (waits_for (count + 1) e (hears me (count + 1) l)))
opened_ordered t me count e l true next up each told = record { rises = up; counted = next l.outbox (up_to_next count l.outbox each); told = simp length-set told }
opened_ordered t me count e l false next up each told =
    let last = waits_last l.grant (heard me (count + 1) l.told) l.outbox (count + 1) e (below_next count l.outbox each) in
    record {
      rises = subst AreRising (sym last) (pairs_push l.outbox (count + 1, e) up (below_next count l.outbox each));
      counted = subst (AreApplied t.live) (sym last) (next (l.outbox ++ (count + 1, e) ∷ []) (last_counted count e l.outbox each));
      told = simp length-set told;
    }

-- ---- what becomes of a lease at all

record IsFresh (l : PrimaryLease) : Type 0 where
  outbox : l.outbox ≡ []
  told : length l.told ≡ 16

record Was (old : Option PrimaryLease) (P : PrimaryLease → Type 0) : Type 0 where
  l : PrimaryLease
  is : old ≡ Some l
  fits : P l

abbrev Comes : Slot → Option PrimaryLease → Slot → PrimaryLease → Type 0
Comes s old t new = IsFresh new ⊎ (Was old (λ l. Shrinks l new) ⊎ Was old (λ l. Opens s t l new))

abbrev LeaseGoes : Slot → Option PrimaryLease → Slot → Option PrimaryLease → Type 0
LeaseGoes s old t None = Unit {0}
LeaseGoes s old t (Some new) = Comes s old t new

abbrev pub IsOf : Stamp → Option PrimaryLease → Type 0
IsOf promise None = Unit {0}
IsOf promise (Some l) = l.grant.stamp ≡ promise

nothing_waits : (live : Option Live) → AreApplied live []
nothing_waits None = tt
nothing_waits (Some v) = All-nil (λ (e : ℕ × Open). e.0 ≤ v.replica.held.count)

none_rises : AreRising []
none_rises = λ i j d below within. absurd (omega arith)

goes_ordered : (s t : Slot) (old new : Option PrimaryLease) → LeaseGoes s old t new → Counts s t → IsOf s.promise old → IsOf t.promise new → Ordered s.live old → Ordered t.live new
goes_ordered s t old None goes up first second ordered = tt
goes_ordered s t old (Some new) (inl fresh) up first second ordered = record {
  rises = subst AreRising (sym fresh.outbox) none_rises;
  counted = subst (AreApplied t.live) (sym fresh.outbox) (nothing_waits t.live);
  told = fresh.told;
}
goes_ordered s t old (Some new) (inr (inl was)) up first second ordered =
    let before : IsOrdered s.live was.l = subst (Ordered s.live) was.is ordered in
    let same : t.promise ≡ s.promise = sym second ∙ was.fits.stamp ∙ subst (IsOf s.promise) was.is first in
    record { rises = was.fits.rises before.rises; counted = up same new.outbox (was.fits.fewer s.live before.counted); told = was.fits.told ∙ before.told }
goes_ordered s t old (Some new) (inr (inr was)) up first second ordered =
    let before : IsOrdered s.live was.l = subst (Ordered s.live) was.is ordered in
    let o = was.fits in
    let count : ℕ = o.live.replica.held.count in
    subst (IsOrdered t.live) (sym o.is)
    (opened_ordered t o.me count o.edit was.l (is_acknowledged (hears o.me (count + 1) was.l) (count + 1)) o.counts before.rises (subst (λ live. AreApplied live was.l.outbox) o.lives before.counted) before.told)

same_lease : (s t : Slot) (lease : Option PrimaryLease) → LeaseGoes s lease t lease
same_lease s t None = tt
same_lease s t (Some l) = inr (inl (record { l = l; is = refl; fits = record { stamp = refl; rises = λ up. up; fewer = λ live each. each; told = refl } }))

either_lease : (s t : Slot) (b : Bool) (lease : Option PrimaryLease) → LeaseGoes s lease t (cond b lease None)
either_lease s t true lease = same_lease s t lease
either_lease s t false lease = tt

-- ---- a message about a chunk

abbrev OfLease : (PrimaryLease → Type 0) → LeaseChange → Type 0
OfLease P LeaseStays = Unit {0}
OfLease P (LeaseBecomes l) = P l
OfLease P LeaseSpent = Unit {0}

abbrev Leases : Place → Part → Type 0
Leases p part = OfLease (Comes p.slot p.lease (slot_after p.slot part.slot)) part.lease

spends : (P : PrimaryLease → Type 0) (promise : Stamp) (lease : Option PrimaryLease) → OfLease P (of_promise promise lease)
spends P promise None = tt
spends P promise (Some l) = by_case (is_same l.grant.stamp promise)
  where
    by_case : (b : Bool) → OfLease P (cond b LeaseStays LeaseSpent)
    by_case true = tt
    by_case false = tt

leases_after_part : (s t : Slot) (old : Option PrimaryLease) (c : LeaseChange) → OfLease (Comes s old t) c → LeaseGoes s old t (lease_after old c)
leases_after_part s t old LeaseStays leases = same_lease s t old
leases_after_part s t old (LeaseBecomes l) leases = leases
leases_after_part s t old LeaseSpent leases = tt

module _ (h : Here) (p : Place) where
  or_leases : (o : Option Refusal) (refuses : Refusal → Part) (part : Part) → ((e : Refusal) → Leases p (refuses e)) → (o ≡ None → Leases p part) → Leases p (or_else o refuses part)
  or_leases None refuses part each leases = leases refl
  or_leases (Some e) refuses part each leases = each e

  either_leases : (test : Bool) (x y : Part) → Leases p x → Leases p y → Leases p (cond test x y)
  either_leases true x y first second = first
  either_leases false x y first second = second

  promises_lease : (stamp : Stamp) (m : Result Slot Refusal) → Leases p (messages.promises h p stamp m)
  promises_lease stamp (Ok s) = spends (Comes p.slot p.lease s) s.promise p.lease
  promises_lease stamp (Err e) = tt

  sends_lease : (stamp : Stamp) (target : ℕ) (m : Result (Image × Option SealedImage) Refusal) → Leases p (messages.sends_copy h p stamp target m)
  sends_lease stamp target (Ok copy) = tt
  sends_lease stamp target (Err e) = tt

  drops_lease : (m : Result Slot Refusal) → Leases p (messages.drops m)
  drops_lease (Ok s) = tt
  drops_lease (Err e) = tt

  takes_lease : (given : Grant) (m : Result Slot Refusal) → Leases p (takes given m)
  takes_lease given (Ok s) = inl (record { outbox = refl; told = refl })
  takes_lease given (Err e) = tt

  goes_on_lease : (next : PrimaryLease → PrimaryLease) (sent : PrimaryLease → List Message) (o : Option PrimaryLease) → p.lease ≡ o → ((l : PrimaryLease) → Shrinks l (next l)) → Leases p (goes_on next sent o)
  goes_on_lease next sent None is each = tt
  goes_on_lease next sent (Some l) is each = inr (inl (record { l = l; is = is; fits = each l }))

  supplies_lease : (e : Refusal) (server : ℕ) (o : Option PrimaryLease) → Leases p (supplies_to h e server o)
  supplies_lease e server None = tt
  supplies_lease e server (Some l) = tt

  gives_lease : (req : ReqId) (m : Result Given Refusal) → Leases p (fetching.gives h p req m)
  gives_lease req (Ok found) = tt
  gives_lease req (Err e) = tt

  from_lease : (from : NodeId) (part : ℕ → Part) → ((server : ℕ) → Leases p (part server)) → Leases p (from_server from part)
  from_lease (nodes.Server server) part each = each server
  from_lease nodes.Master part each = tt
  from_lease (nodes.Client client) part each = tt

  kept_lease : (req : ReqId) (kept : Option KeptRefusal) (part : Part) → Leases p part → Leases p (unless_kept h req kept part)
  kept_lease req None part leases = leases
  kept_lease req (Some kept) part leases =
      either_leases (nat_lt req.number kept.number) (refused_once h req refusals.Old) (cond (req.number == kept.number) (refused_once h req kept.refusal) part) tt
      (either_leases (req.number == kept.number) (refused_once h req kept.refusal) part tt leases)

  done_lease : (req : ReqId) (last : Option Done) (part : Part) → Leases p part → Leases p (unless_done h p req last part)
  done_lease req None part leases = leases
  done_lease req (Some last) part leases =
      either_leases (req.number == last.number) (repeated h p req last.outcome) (cond (nat_lt req.number last.number) (refused_once h req refusals.Old) part)
      (either_leases (is_known_of_all req p.slot p.lease) (sending (edits.done h req (Ok last.outcome) ∷ [])) (sending []) tt tt)
      (either_leases (nat_lt req.number last.number) (refused_once h req refusals.Old) part tt leases)

  taken_lease : (from : NodeId) (stamp : Stamp) (number : ℕ) (op : Op) (m : Result Slot Refusal) → Leases p (edits.takes_if h p from stamp number op m)
  taken_lease from stamp number op (Ok s) = tt
  taken_lease from stamp number op (Err e) = tt

  forwarded_lease : (from : NodeId) (stamp : Stamp) (number : ℕ) (req : ReqId) (op : Op) (bytes : Option (List ℕ)) (live : Option Live) → Leases p (edits.takes h p from stamp number req op bytes live)
  forwarded_lease from stamp number req op bytes None = tt
  forwarded_lease from stamp number req op bytes (Some live) =
      let m : Result Slot Refusal = apply stamp number req (in_replica op) (bytes_or_none bytes) p.slot in
      either_leases (nat_le number live.replica.held.count) (edits.acknowledges h from stamp live.replica.held.count) (edits.takes_next h p from stamp number req op bytes live.replica.held.count) tt
      (or_leases (edits.unless_next live.replica.held.count number bytes) (declines h p from stamp) (edits.takes_if h p from stamp number op m) (λ e. tt) (λ _. taken_lease from stamp number op m))

  numbers_lease : (live : Live) (l : PrimaryLease) (e : Open) (m : Result Slot Refusal) → p.slot.live ≡ Some live → p.lease ≡ Some l → apply l.grant.stamp (live.replica.held.count + 1) e.req (in_replica e.op) e.bytes p.slot ≡ m
      → Leases p (edits.numbers_if h p l live.replica.held.count e m)
  numbers_lease live l e (Err refusal) lives held is = tt
  numbers_lease live l e (Ok s) lives held is =
      either_leases (live.replica.held.count == edits.last_count) (refused_edit h p e.req refusals.Exhausted) (edits.numbers h s l (live.replica.held.count + 1) e) tt
      (inr (inr (record {
        l = l;
        is = held;
        fits = record { live = live; lives = lives; me = h.me; edit = e; is = refl; counts = applied_counts l.grant.stamp (live.replica.held.count + 1) e.req (in_replica e.op) e.bytes p.slot s live lives is };
      })))

  numbered_lease : (req : ReqId) (op : Op) (bytes : List ℕ) (live : Option Live) (lease : Option PrimaryLease) → p.slot.live ≡ live → p.lease ≡ lease → Leases p (numbers_or_passes h p req op bytes live lease)
  numbered_lease req op bytes None lease lives held = tt
  numbered_lease req op bytes (Some live) None lives held = tt
  numbered_lease req op bytes (Some live) (Some l) lives held =
      let e : Open = numbered_edit h req op bytes live in
      either_leases (is_passed h.chunk (length live.replica.held.chunk.bytes) op) (sending (edits.done h req (Ok Padded) ∷ [])) (edits.numbers_as h p live l e) tt
      (numbers_lease live l e (apply l.grant.stamp (live.replica.held.count + 1) req (in_replica e.op) e.bytes p.slot) lives held refl)

  chunk_leases : (from : NodeId) (chunk : Chunk) → Leases p (about_chunk h p from chunk)
  chunk_leases from (chunks.Create stamp) =
      or_leases (other_epoch h stamp.epoch) (messages.unpromised h p stamp) (messages.promises h p stamp (slots.create h.block h.chunk stamp p.slot)) (λ e. tt) (λ _. promises_lease stamp (slots.create h.block h.chunk stamp p.slot))
  chunk_leases from (chunks.Advance stamp) =
      or_leases (other_epoch h stamp.epoch) (messages.unpromised h p stamp) (messages.promises h p stamp (slots.advance stamp p.slot)) (λ e. tt) (λ _. promises_lease stamp (slots.advance stamp p.slot))
  chunk_leases from (chunks.Grant given) =
      or_leases (first_of (other_epoch h given.stamp.epoch ∷ check_grant given.stamp p.slot ∷ [])) unanswered (cond (is_held given.stamp p.lease) (sending []) (takes given (take_lease given.stamp p.slot))) (λ e. tt)
      (λ _. either_leases (is_held given.stamp p.lease) (sending []) (takes given (take_lease given.stamp p.slot)) tt (takes_lease given (take_lease given.stamp p.slot)))
  chunk_leases from (chunks.Renewed stamp end) =
      or_leases (unless_leased stamp p.slot p.lease) unanswered (goes_on (renews end) (λ l. []) p.lease) (λ e. tt) (λ _. goes_on_lease (renews end) (λ l. []) p.lease refl (renewing end))
  chunk_leases from (chunks.Edit req stamp op) =
      done_lease req (done_in p.slot.live req.client.0) (unless_kept h req h.refused (new_edit h p req stamp op))
      (kept_lease req h.refused (new_edit h p req stamp op)
      (or_leases (unless_numbered h p stamp op) (refused_edit h p req) (numbers_or_passes h p req op (bytes_or_none (bytes_of op None h.pushed)) p.slot.live p.lease) (λ e. tt)
      (λ _. numbered_lease req op (bytes_or_none (bytes_of op None h.pushed)) p.slot.live p.lease refl refl)))
  chunk_leases from (chunks.Forward stamp number req op carried) =
      or_leases (first_of (unless_live p.slot.live ∷ unless_promised stamp p.slot ∷ [])) (declines h p from stamp) (edits.takes h p from stamp number req op (bytes_of op carried h.pushed) p.slot.live) (λ e. tt)
      (λ _. forwarded_lease from stamp number req op (bytes_of op carried h.pushed) p.slot.live)
  chunk_leases from (chunks.Ack stamp count) = from_lease from (λ server. holding.ack h p server stamp count) (λ server.
      or_leases (unless_leased stamp p.slot p.lease) unanswered (goes_on (λ l. settled (hears server count l)) (λ l. dones h.me (hears server count l)) p.lease) (λ e. tt)
      (λ _. goes_on_lease (λ l. settled (hears server count l)) (λ l. dones h.me (hears server count l)) p.lease refl (hearing server count)))
  chunk_leases from (chunks.Nack stamp refusal) = from_lease from (λ server. holding.nack h p server stamp refusal) (λ server.
      or_leases (unless_leased stamp p.slot p.lease) unanswered (supplies_to h refusal server p.lease) (λ e. tt) (λ _. supplies_lease refusal server p.lease))
  chunk_leases from (chunks.Fetch req stamp epoch asked) =
      or_leases (other_epoch h epoch) (fetching.refuses h p req) (fetching.gives h p req (fetching.given stamp asked p.slot)) (λ e. tt) (λ _. gives_lease req (fetching.given stamp asked p.slot))
  chunk_leases from (chunks.CopyOut stamp target with_sealed) =
      or_leases (other_epoch h stamp.epoch) (messages.unpromised h p stamp) (messages.sends_copy h p stamp target (moves.copy_out stamp with_sealed p.slot)) (λ e. tt) (λ _. sends_lease stamp target (moves.copy_out stamp with_sealed p.slot))
  chunk_leases from (chunks.CopyIn stamp image sealed) =
      or_leases (other_epoch h stamp.epoch) (messages.unpromised h p stamp) (messages.promises h p stamp (moves.copy_in h.block h.chunk stamp image sealed p.slot)) (λ e. tt)
      (λ _. promises_lease stamp (moves.copy_in h.block h.chunk stamp image sealed p.slot))
  chunk_leases from (chunks.Drop epoch promise) =
      or_leases (other_epoch h epoch) unanswered (messages.drops (slots.drop_replica promise p.slot)) (λ e. tt) (λ _. drops_lease (slots.drop_replica promise p.slot))
  chunk_leases from (chunks.Promised stamp count carried) = tt
  chunk_leases from (chunks.Unpromised stamp refusal) = tt
  chunk_leases from (chunks.Renew stamp) = tt
  chunk_leases from (chunks.Bad stamp) = tt

-- ---- other chunks' leases

other_eq : (q k : ℕ) → (q == k) ≡ false → eq_by_cmp nat_cmp q k ≡ false
other_eq q k is = by_case (eq_by_cmp nat_cmp q k) refl
  where
    by_case : (b : Bool) → eq_by_cmp nat_cmp q k ≡ b → b ≡ false
    by_case true tied = absurd (false≢true (sym is ∙ eq-eqb q k (same_key q k tied)))
    by_case false apart = refl

other_lease : (handle other : ℕ) (change : LeaseChange) (leases : fin.FinMap nat_cmp PrimaryLease) → (other == handle) ≡ false → fin.get (change_lease handle change leases) other ≡ fin.get leases other
other_lease handle other LeaseStays leases apart = refl
other_lease handle other (LeaseBecomes l) leases apart = fin.get-insert nat_cmp_total leases handle l other ∙ ap (λ b. cond b (Some l) (fin.get leases other)) (other_eq other handle apart)
other_lease handle other LeaseSpent leases apart = fin.get-remove nat_cmp_total leases handle other ∙ ap (λ b. cond b None (fin.get leases other)) (other_eq other handle apart)

-- ---- events

abbrev GoesAt : ℕ → Server → Server → Type 0
GoesAt q s next = LeaseGoes (slot_in q s) (place_of q s).lease (slot_in q next) (place_of q next).lease

unmoved : (q : ℕ) (s next : Server) → (place_of q next).lease ≡ (place_of q s).lease → GoesAt q s next
unmoved q s next is = subst (LeaseGoes (slot_in q s) (place_of q s).lease (slot_in q next)) (sym is) (same_lease (slot_in q s) (slot_in q next) (place_of q s).lease)

spent : (q : ℕ) (s next : Server) → (place_of q next).lease ≡ None → GoesAt q s next
spent q s next is = subst (LeaseGoes (slot_in q s) (place_of q s).lease (slot_in q next)) (sym is) tt

part_goes : (q handle : ℕ) (req : Option ReqId) (part : Part) (s : Server) → Leases (place_of handle s) part → GoesAt q s (changed_by handle req part s)
part_goes q handle req part s leases = by_case (q == handle) refl
  where
    by_case : (b : Bool) → (q == handle) ≡ b → GoesAt q s (changed_by handle req part s)
    by_case true is =
        subst (λ k. GoesAt k s (changed_by handle req part s)) (sym (eqb-true q handle is))
        (subst (λ (p : Place). LeaseGoes (slot_in handle s) (place_of handle s).lease p.slot p.lease) (sym (own_place handle req part s)) (leases_after_part (slot_in handle s) (slot_after (slot_in handle s) part.slot) (place_of handle s).lease part.lease leases))
    by_case false apart = unmoved q s (changed_by handle req part s) (other_lease handle q part.lease s.dropped.leases apart)

-- a copy under a new handle leaves each lease, or spends one
copy_goes : (q handle new_handle : ℕ) (s : Server) (h new : Here) (stamp : Stamp) (o : Option Refusal) (m : Result Slot Refusal)
    → GoesAt q s (copies handle new_handle (messages.or_copy o (messages.not_copied h (place_of handle s) new stamp) (messages.copies h (place_of handle s) new (place_of new_handle s) stamp m)) s).after
copy_goes q handle new_handle s h new stamp (Some e) m = unmoved q s (with_store (change_slot handle (marked_by (damaged_block e)) (store_of s)) s) refl
copy_goes q handle new_handle s h new stamp None (Err e) = unmoved q s (with_store (change_slot handle (marked_by (damaged_block e)) (store_of s)) s) refl
copy_goes q handle new_handle s h new stamp None (Ok t) =
    part_goes q new_handle None (promising t (place_of new_handle s) (messages.promised new stamp t ∷ [])) s (spends (Comes (slot_in new_handle s) (place_of new_handle s).lease t) t.promise (place_of new_handle s).lease)

-- no call but the end of an epoch is a rollback, which spends each lease
no_rollback_made : (change : SlotChange) (c : Option Call) → NoRollback c → NoRollback (made_by change c)
no_rollback_made SlotStays c none = tt
no_rollback_made (SlotBecomes s) c none = none
no_rollback_made (SlotMarked block) c none = tt

no_rollback_numbered : (h : Here) (req : ReqId) (stamp : Stamp) (op : Op) (live : Option Live) → NoRollback (numbered_call h req stamp op live)
no_rollback_numbered h req stamp op None = tt
no_rollback_numbered h req stamp op (Some live) = tt

no_rollback_asked : (h : Here) (p : Place) (chunk : Chunk) → NoRollback (asked_call h p chunk)
no_rollback_asked h p (chunks.Edit req stamp op) = no_rollback_numbered h req stamp op p.slot.live
no_rollback_asked h p chunk = tt

no_rollback_where : (b : Bool) (c : Option Call) → NoRollback c → NoRollback (cond b c None)
no_rollback_where true c none = none
no_rollback_where false c none = tt

no_rollback_first : (c d : Option Call) → NoRollback c → NoRollback d → NoRollback (first_call c d)
no_rollback_first None d first second = second
no_rollback_first (Some c) d first second = first

no_rollback_taken : (m : Result Held Refusal) → NoRollback (copy_taken m)
no_rollback_taken (Ok h) = tt
no_rollback_taken (Err e) = tt

no_rollback_done : (c : Call) (m : Result Slot Refusal) → IsNoRollback c → NoRollback (if_done c m)
no_rollback_done c (Ok s) none = none
no_rollback_done c (Err e) none = tt

abbrev Fits : ℕ → Server → Option Call → Server → Type 0
Fits q s c next = GoesAt q s next × (NoRollback c ⊎ ((place_of q next).lease ≡ None))

learn_fits : (q epoch : ℕ) (end : EpochEnd) (s : Server) (here next : Bool) → Fits q s (cond here None (cond next (Some (end_call epoch end)) None)) (step_if epoch end s here next).after
learn_fits q epoch end s true next = (unmoved q s s refl, inl tt)
learn_fits q epoch end s false false = (unmoved q s s refl, inl tt)
learn_fits q epoch Prepare s false true = (unmoved q s (next_of epoch Prepare s) refl, inl tt)
learn_fits q epoch Finalize s false true = (unmoved q s (next_of epoch Finalize s) refl, inl tt)
learn_fits q epoch Rollback s false true = (spent q s (next_of epoch Rollback s) (fin.get-empty nat_cmp q), inr (fin.get-empty nat_cmp q))

body_fits : (q : ℕ) (s : Server) (from : NodeId) (body : Body) (moment : Moment) → Fits q s (heard_call q s from body moment) (handle_body s from body moment).after
body_fits q s from (bodies.About handle chunk) moment =
    let h : Here = here_of s moment handle (request_in chunk) in
    let p : Place = place_of handle s in (
      part_goes q handle (request_in chunk) (about_chunk h p from chunk) s (chunk_leases h p from chunk),
      inl (no_rollback_where (q == handle) (call_at h p from chunk) (no_rollback_made (about_chunk h p from chunk).slot (asked_call h p chunk) (no_rollback_asked h p chunk))),
    )
body_fits q s from (bodies.Push req bytes) moment = (unmoved q s (push s req bytes).after refl, inl tt)
body_fits q s from (bodies.MakeCopy handle at new_handle stamp) moment =
    let h : Here = here_of s moment handle None in
    let new : Here = here_of s moment new_handle None in
    let copying : Copying = messages.make_copy h (place_of handle s) at new (place_of new_handle s) stamp in
    let taken : Option Call = copy_taken (moves.copied_from at stamp (slot_in handle s)) in (
      copy_goes q handle new_handle s h new stamp (other_epoch h stamp.epoch) (moves.make_copy at stamp (slot_in handle s) (slot_in new_handle s)),
      inl (no_rollback_first (cond (q == new_handle) (made_by copying.target.slot taken) None) (cond (q == handle) (made_by copying.source None) None)
          (no_rollback_where (q == new_handle) (made_by copying.target.slot taken) (no_rollback_made copying.target.slot taken (no_rollback_taken (moves.copied_from at stamp (slot_in handle s)))))
          (no_rollback_where (q == handle) (made_by copying.source None) (no_rollback_made copying.source None tt))),
    )
body_fits q s from (bodies.Epoch epoch end) moment = learn_fits q epoch end s (epoch == s.kept.epoch) (epoch == s.kept.epoch + 1)
body_fits q s from (bodies.Call req call) moment = (unmoved q s s refl, inl tt)
body_fits q s from (bodies.Reply req result) moment = (unmoved q s s refl, inl tt)
body_fits q s from (bodies.Done req result) moment = (unmoved q s s refl, inl tt)
body_fits q s from (bodies.Bytes req result) moment = (unmoved q s s refl, inl tt)
body_fits q s from (bodies.Report epoch replicas) moment = (unmoved q s s refl, inl tt)
body_fits q s from (bodies.Learned epoch handles) moment = (unmoved q s s refl, inl tt)
body_fits q s from (bodies.Behind epoch) moment = (unmoved q s s refl, inl tt)

standing_is : (moment : Moment) (leases : fin.FinMap nat_cmp PrimaryLease) (q : ℕ) → fin.get (standing_leases moment leases) q ≡ cond (stands_at moment (fin.get leases q)) (fin.get leases q) None
standing_is moment leases q = fin.get-retain_keys leases (λ handle. stands_at moment (fin.get leases handle)) q (λ x tied. ap (stands_at moment) (fin.get_tied nat_cmp_total leases q x tied))

put_goes : (q handle : ℕ) (s : Server) (m : Result Slot Refusal) → GoesAt q s (unless_refused s (in_store s (put_slot handle (store_of s) m)))
put_goes q handle s (Ok t) = unmoved q s (with_store (with_slot handle t (store_of s)) s) refl
put_goes q handle s (Err e) = unmoved q s s refl

event_fits : (q : ℕ) (e : Event) (s : Server) → Fits q s (call_by q e s) (behind e s)
event_fits q (Hears message moment) s = body_fits q s message.from message.body moment
event_fits q (Ticks moment) s =
    (subst (LeaseGoes (slot_in q s) (place_of q s).lease (slot_in q s)) (sym (standing_is moment s.dropped.leases q)) (either_lease (slot_in q s) (slot_in q s) (stands_at moment (fin.get s.dropped.leases q)) (fin.get s.dropped.leases q)), inl tt)
event_fits q Restarts s = (spent q s (restart s) (fin.get-empty nat_cmp q), inl tt)
event_fits q (runs.Loses handle) s =
    (put_goes q handle s (slots.lose (slot_in handle s)), inl (no_rollback_where (q == handle) (if_done Loses (slots.lose (slot_in handle s))) (no_rollback_done Loses (slots.lose (slot_in handle s)) tt)))
event_fits q (runs.Damages handle block) s =
    (put_goes q handle s (slots.damage block (slot_in handle s)), inl (no_rollback_where (q == handle) (if_done (Damages block) (slots.damage block (slot_in handle s))) (no_rollback_done (Damages block) (slots.damage block (slot_in handle s)) tt)))

-- ---- each server that is reached

abbrev OrderedAt : ℕ → Server → Type 0
OrderedAt q s = Ordered (slot_in q s).live (place_of q s).lease

pub of_promise_at : (q : ℕ) (s : Server) → IsReached s → IsOf (slot_in q s).promise (place_of q s).lease
of_promise_at q s reached = by_case (place_of q s).lease refl
  where
    by_case : (o : Option PrimaryLease) → (place_of q s).lease ≡ o → IsOf (slot_in q s).promise o
    by_case None is = tt
    by_case (Some l) is = held_promise q s l reached is

ordered_behind : (q : ℕ) (e : Event) (s : Server) → IsReached s → IsReached (behind e s) → OrderedAt q s → OrderedAt q (behind e s)
ordered_behind q e s reached next ordered =
    let fits = event_fits q e s in
    elim fits.1 [
      | inl none ↦
          goes_ordered (slot_in q s) (slot_in q (behind e s)) (place_of q s).lease (place_of q (behind e s)).lease fits.0
          (counts s.block s.chunk (call_by q e s) (slot_in q s) (slot_in q (behind e s)) none (event_calls q e s)) (of_promise_at q s reached) (of_promise_at q (behind e s) next) ordered
      | inr gone ↦ subst (Ordered (slot_in q (behind e s)).live) (sym gone) tt
    ]

behind_last : (events : List Event) (e : Event) (s : Server) → behind_all (events ++ e ∷ []) s ≡ behind e (behind_all events s)
behind_last [] e s = refl
behind_last (x ∷ events) e s = behind_last events e (behind x s)

pub reached_behind : (e : Event) (s : Server) → IsReached s → IsReached (behind e s)
reached_behind e s r = record {
  me = r.me;
  block = r.block;
  chunk = r.chunk;
  some_block = r.some_block;
  block_fits = r.block_fits;
  chunk_fits = r.chunk_fits;
  events = r.events ++ e ∷ [];
  is = ap (behind e) r.is ∙ sym (behind_last r.events e (new r.me r.block r.chunk));
}

ordered_behind_all : (q : ℕ) (events : List Event) (s : Server) → IsReached s → OrderedAt q s → OrderedAt q (behind_all events s)
ordered_behind_all q [] s reached ordered = ordered
ordered_behind_all q (e ∷ events) s reached ordered =
    let next : IsReached (behind e s) = reached_behind e s reached in
    ordered_behind_all q events (behind e s) next (ordered_behind q e s reached next ordered)

pub each_ordered : (q : ℕ) (s : Server) → IsReached s → OrderedAt q s
each_ordered q s r =
    let start : Server = new r.me r.block r.chunk in
    let begun : IsReached start = record { me = r.me; block = r.block; chunk = r.chunk; some_block = r.some_block; block_fits = r.block_fits; chunk_fits = r.chunk_fits; events = []; is = refl } in
    subst (OrderedAt q) (sym r.is) (ordered_behind_all q r.events start begun (subst (Ordered (slot_in q start).live) (sym (fin.get-empty nat_cmp q)) tt))

pub ordered_lease : (q : ℕ) (s : Server) (l : PrimaryLease) → IsReached s → (place_of q s).lease ≡ Some l → IsOrdered (slot_in q s).live l
ordered_lease q s l r held = subst (Ordered (slot_in q s).live) held (each_ordered q s r)

pub counted_waits : (q : ℕ) (s : Server) (l : PrimaryLease) (live : Live) → IsReached s → (place_of q s).lease ≡ Some l → (slot_in q s).live ≡ Some live → AreCounted live.replica.held.count l.outbox
counted_waits q s l live r held lives = subst (λ o. AreApplied o l.outbox) lives (ordered_lease q s l r held).counted
