-- Each event leaves a server with counts that 64 bits hold, and so has what it sends.
use Rattle.std.proofs.Common.{◌≡◌, ℕ, ◌+◌, Bool, true, false, cond, List, [], ◌∷◌, Option, Some, None, refl, sym, ap, subst, ◌∙◌}
use Rattle.std.specs.Prelude.{Result, Ok, Err, IfOk, T, ◌==◌, flat_map, option_map}
use Rattle.std.specs.List.{AllByRecursion, filter}
use Rattle.std.specs.Cmp.{eq_by_cmp_equiv, nat_cmp_total}
use Rattle.std.specs.FinMap as fin
use Rattle.std.specs.FinMap.Entries.{below_all}
use Rattle.std.specs.Ordering.{eq_by_cmp, is_lt, nat_cmp}
use Rattle.gs_base.specs.declared.epoch.EpochEnd.{EpochEnd}
use Rattle.gs_base.specs.declared.epoch.EpochEnd.TheVariants.{Prepare, Finalize, Rollback}
use Rattle.gs_base.specs.declared.numbers.Moment.{Moment}
use Rattle.gs_base.specs.declared.numbers.ReqId.{ReqId}
use Rattle.gs_base.specs.declared.numbers.Stamp.{Stamp}
use Rattle.gs_base.specs.declared.refusal.Refusal.{Refusal}
use Rattle.gs_msg.specs.declared.body.Body.{Body}
use Rattle.gs_msg.specs.declared.body.Body.TheVariants as bodies
use Rattle.gs_msg.specs.declared.message.Message.{Message}
use Rattle.gs_msg.specs.declared.node.NodeId.{NodeId}
use Rattle.gs_store.specs.Moves as moves
use Rattle.gs_store.specs.Slots.{Slot}
use Rattle.gs_store.specs.Slots as slots
use Rattle.gs_store.specs.Stores.{Store, or_nothing, put_slot, set_slot, slot_of, with_slot}
use Rattle.gs_store.proofs.Keys.{first, not_tied, second}
use Rattle.gs_store.proofs.Places.{same_key}
use Rattle.gs_store.proofs.StoreLaws.{slot_goes}
use Rattle.gs_server_lease.specs.declared.lease.Open.{Open}
use Rattle.gs_server_lease.specs.Leases.{PrimaryLease, forwards_again, is_over, lacks, reminds, reminds_of}
use Rattle.gs_server.specs.Places.{Here, LeaseBecomes, LeaseChange, LeaseSpent, LeaseStays, Part, Place, SlotBecomes, SlotChange, SlotMarked, SlotStays, damaged_block, other_epoch}
use Rattle.gs_server.specs.Promises.{Copying}
use Rattle.gs_server.specs.Promises as messages
use Rattle.gs_server.specs.Servers.{Server, change_buffer, change_lease, change_slot, changed_by, copies, damage, handle, handle_body, here_of, in_store, leases_after, lose, new, place_of, reminds_all, request_in, restart, standing_leases, stands_at, store_of, tick, with_store}
use Rattle.gs_server.specs.Runs.{Event, Hears, Restarts, Ticks, behind, behind_all, slot_in, unless_refused}
use Rattle.gs_server.specs.Runs as runs
use Rattle.gs_server.proofs.Happening.{step_if}
use Rattle.gs_laws_server.specs.servers.Counted.{GoesCounted, HearsCounted, IsCountedBody, IsCountedLease, IsCountedMessage, IsCountedServer, IsCountedSlot}
use Rattle.gs_laws_server.proofs.lemmas.servers.CountedParts.{AllCounted, AreNumbered, IsCountedPart, LeaseCounts, SlotCounts, bad_sent, both_sent, chunk_part, either_sent, forwards_sent, marks, promised_count, spends}
use Rattle.gs_laws_server.proofs.lemmas.servers.CountedSlots.{damaged_counts, epoch_counts, lose_counts, make_copy_counts, mark_counts}

-- ---- what is kept of the chunks

abbrev StoreCounts : Store → Type 0
StoreCounts t = (q : ℕ) → IsCountedSlot (slot_of q t)

with_slot_counts : (handle : ℕ) (s : Slot) (t : Store) → IsCountedSlot s → StoreCounts t → StoreCounts (with_slot handle s t)
with_slot_counts handle s t made counted q = subst (λ (o : Option Slot). IsCountedSlot (or_nothing o)) (sym (fin.get-insert nat_cmp_total t.slots handle s q)) (by_case (eq_by_cmp nat_cmp q handle))
  where
    by_case : (b : Bool) → IsCountedSlot (or_nothing (cond b (Some s) (fin.get t.slots q)))
    by_case true = made
    by_case false = counted q

marked_counts : (handle block : ℕ) (t : Store) (o : Option Slot) → fin.get t.slots handle ≡ o → StoreCounts t → StoreCounts (set_slot handle t (option_map (slots.mark_bad block) o))
marked_counts handle block t None is counted = counted
marked_counts handle block t (Some s) is counted =
    with_slot_counts handle (slots.mark_bad block s) t (mark_counts block s (subst (λ (o : Option Slot). IsCountedSlot (or_nothing o)) is (counted handle))) counted

changed_counts : (handle : ℕ) (change : SlotChange) (t : Store) → SlotCounts change → StoreCounts t → StoreCounts (change_slot handle change t)
changed_counts handle SlotStays t made counted = counted
changed_counts handle (SlotBecomes s) t made counted = with_slot_counts handle s t made counted
changed_counts handle (SlotMarked block) t made counted = marked_counts handle block t (fin.get t.slots handle) refl counted

buffer_counts : (req : Option ReqId) (used : Bool) (t : Store) → StoreCounts t → StoreCounts (change_buffer req used t)
buffer_counts None used t counted = counted
buffer_counts (Some req) true t counted = counted
buffer_counts (Some req) false t counted = counted

-- ---- and of the leases

abbrev Leases : Type 0
Leases = fin.FinMap nat_cmp PrimaryLease

abbrev LeasesCount : Leases → Type 0
LeasesCount leases = (q : ℕ) → IsCountedLease (fin.get leases q)

either_lease : (test : Bool) (o p : Option PrimaryLease) → IsCountedLease o → IsCountedLease p → IsCountedLease (cond test o p)
either_lease true o p one other = one
either_lease false o p one other = other

leases_count : (handle : ℕ) (change : LeaseChange) (leases : Leases) → LeaseCounts change → LeasesCount leases → LeasesCount (change_lease handle change leases)
leases_count handle LeaseStays leases made counted = counted
leases_count handle (LeaseBecomes l) leases made counted = λ q. subst IsCountedLease (sym (fin.get-insert nat_cmp_total leases handle l q)) (either_lease (eq_by_cmp nat_cmp q handle) (Some l) (fin.get leases q) made (counted q))
leases_count handle LeaseSpent leases made counted = λ q. subst IsCountedLease (sym (fin.get-remove nat_cmp_total leases handle q)) (either_lease (eq_by_cmp nat_cmp q handle) None (fin.get leases q) tt (counted q))

none_held : LeasesCount fin.empty
none_held q = subst IsCountedLease (sym (fin.get-empty nat_cmp q)) tt

standing_count : (moment : Moment) (leases : Leases) → LeasesCount leases → LeasesCount (standing_leases moment leases)
standing_count moment leases counted q =
    subst IsCountedLease (sym (fin.get-retain_keys leases (λ handle. stands_at moment (fin.get leases handle)) q (λ x tied. ap (stands_at moment) (fin.get_tied nat_cmp_total leases q x tied))))
    (either_lease (stands_at moment (fin.get leases q)) (fin.get leases q) None (counted q) tt)

-- ---- messages

part_counts : (handle : ℕ) (req : Option ReqId) (part : Part) (s : Server) → IsCountedPart part → IsCountedServer s → IsCountedServer (changed_by handle req part s)
part_counts handle req part s made counted = record {
  slots = buffer_counts req part.used (change_slot handle part.slot (store_of s)) (changed_counts handle part.slot (store_of s) made.slot counted.slots);
  leases = leases_count handle part.lease s.dropped.leases made.lease counted.leases;
}

record IsCountedCopying (copying : Copying) : Type 0 where
  source : SlotCounts copying.source
  target : IsCountedPart copying.target

not_copied_counts : (h : Here) (source : Place) (new : Here) (stamp : Stamp) (e : Refusal) → IsCountedCopying (messages.not_copied h source new stamp e)
not_copied_counts h source new stamp e = record { source = marks (damaged_block e); target = record { slot = tt; lease = tt; sent = (tt, bad_sent h source.slot (damaged_block e)) } }

copying_counts : (h : Here) (source : Place) (new : Here) (target : Place) (stamp : Stamp) (o : Option Refusal) (m : Result Slot Refusal) → IfOk m IsCountedSlot
    → IsCountedCopying (messages.or_copy o (messages.not_copied h source new stamp) (messages.copies h source new target stamp m))
copying_counts h source new target stamp (Some e) m made = not_copied_counts h source new stamp e
copying_counts h source new target stamp None (Err e) made = not_copied_counts h source new stamp e
copying_counts h source new target stamp None (Ok s) made = record { source = tt; target = record { slot = made; lease = spends s.promise target.lease; sent = (promised_count s.live made.0, tt) } }

copied_counts : (handle new_handle : ℕ) (copying : Copying) (s : Server) → IsCountedCopying copying → IsCountedServer s → GoesCounted (copies handle new_handle copying s)
copied_counts handle new_handle copying s made counted = record {
  after = part_counts new_handle None copying.target (with_store (change_slot handle copying.source (store_of s)) s) made.target
      (record { slots = changed_counts handle copying.source (store_of s) made.source counted.slots; leases = counted.leases });
  sent = made.target.sent;
}

-- the end of an epoch
ended_leases : (end : EpochEnd) (leases : Leases) → LeasesCount leases → LeasesCount (leases_after end leases)
ended_leases Prepare leases counted = counted
ended_leases Finalize leases counted = counted
ended_leases Rollback leases counted = none_held

learn_counts : (epoch : ℕ) (end : EpochEnd) (s : Server) (here next : Bool) → IsCountedServer s → GoesCounted (step_if epoch end s here next)
learn_counts epoch end s true next counted = record { after = counted; sent = (tt, tt) }
learn_counts epoch end s false true counted = record {
  after = record {
    slots = λ q. subst IsCountedSlot (sym (slot_goes epoch end (store_of s) q)) (epoch_counts epoch end (slot_in q s) (counted.slots q));
    leases = ended_leases end s.dropped.leases counted.leases;
  };
  sent = (tt, tt);
}
learn_counts epoch end s false false counted = record { after = counted; sent = (tt, tt) }

body_counts : (s : Server) (from : NodeId) (body : Body) (moment : Moment) → IsCountedServer s → IsCountedBody body → GoesCounted (handle_body s from body moment)
body_counts s from (bodies.About handle chunk) moment counted said =
    let made = chunk_part (here_of s moment handle (request_in chunk)) (place_of handle s) (counted.slots handle) (counted.leases handle) from chunk said in
    record { after = part_counts handle (request_in chunk) _ s made counted; sent = made.sent }
body_counts s from (bodies.Push req bytes) moment counted said = record { after = record { slots = counted.slots; leases = counted.leases }; sent = tt }
body_counts s from (bodies.MakeCopy handle at new_handle stamp) moment counted said =
    let h : Here = here_of s moment handle None in
    let new : Here = here_of s moment new_handle None in
    let m : Result Slot Refusal = moves.make_copy at stamp (slot_in handle s) (slot_in new_handle s) in
    copied_counts handle new_handle (messages.make_copy h (place_of handle s) at new (place_of new_handle s) stamp) s
    (copying_counts h (place_of handle s) new (place_of new_handle s) stamp (other_epoch h stamp.epoch) m (make_copy_counts at stamp (slot_in handle s) (slot_in new_handle s) (counted.slots handle) (counted.slots new_handle))) counted
body_counts s from (bodies.Epoch epoch end) moment counted said = learn_counts epoch end s (epoch == s.kept.epoch) (epoch == s.kept.epoch + 1) counted
body_counts s from (bodies.Call req call) moment counted said = record { after = counted; sent = tt }
body_counts s from (bodies.Reply req result) moment counted said = record { after = counted; sent = tt }
body_counts s from (bodies.Done req result) moment counted said = record { after = counted; sent = tt }
body_counts s from (bodies.Bytes req result) moment counted said = record { after = counted; sent = tt }
body_counts s from (bodies.Report epoch replicas) moment counted said = record { after = counted; sent = tt }
body_counts s from (bodies.Learned epoch handles) moment counted said = record { after = counted; sent = tt }
body_counts s from (bodies.Behind epoch) moment counted said = record { after = counted; sent = tt }

pub heard_counts : (s : Server) (message : Message) (moment : Moment) → IsCountedServer s → IsCountedMessage message → GoesCounted (handle s message moment)
heard_counts s message moment counted said = body_counts s message.from message.body moment counted said

-- ---- a tick

none_found : (k : ℕ) (es : List (ℕ × PrimaryLease)) → T (below_all nat_cmp k es) → fin.find nat_cmp k es ≡ None
none_found k [] below = refl
none_found k (e ∷ es) below =
    ap (λ b. cond b (Some e.1) (fin.find nat_cmp k es)) (not_tied (nat_cmp k e.0) (first (is_lt (nat_cmp k e.0)) (below_all nat_cmp k es) below))
    ∙ none_found k es (second (is_lt (nat_cmp k e.0)) (below_all nat_cmp k es) below)

abbrev EntryCounts : ℕ × PrimaryLease → Type 0
EntryCounts e = IsCountedLease (Some e.1)

-- what is found under each key is every entry
entries_count : (es : List (ℕ × PrimaryLease)) → T (fin.is_sorted nat_cmp es) → ((q : ℕ) → IsCountedLease (fin.find nat_cmp q es)) → AllByRecursion EntryCounts es
entries_count [] sorted each = tt
entries_count (e ∷ es) sorted each = (head, entries_count es (second (below_all nat_cmp e.0 es) (fin.is_sorted nat_cmp es) sorted) (λ q. by_case q (eq_by_cmp nat_cmp q e.0) refl (each q)))
  where
    head : EntryCounts e
    head = subst (λ b. IsCountedLease (cond b (Some e.1) (fin.find nat_cmp e.0 es))) ((eq_by_cmp_equiv nat_cmp_total).refl e.0) (each e.0)

    by_case : (q : ℕ) (b : Bool) → eq_by_cmp nat_cmp q e.0 ≡ b → IsCountedLease (cond b (Some e.1) (fin.find nat_cmp q es)) → IsCountedLease (fin.find nat_cmp q es)
    by_case q true is counted =
        subst IsCountedLease (sym (ap (λ k. fin.find nat_cmp k es) (same_key q e.0 is) ∙ none_found e.0 es (first (below_all nat_cmp e.0 es) (fin.is_sorted nat_cmp es) sorted))) tt
    by_case q false is counted = counted

again_sent : (me handle : ℕ) (l : PrimaryLease) (xs : List (ℕ × Open)) → AreNumbered xs → AllCounted (flat_map (forwards_again me handle l) xs)
again_sent me handle l [] each = tt
again_sent me handle l (x ∷ xs) each =
    both_sent (forwards_again me handle l x) (flat_map (forwards_again me handle l) xs) (forwards_sent me handle l None x (filter (lacks l.told x.0) l.grant.members) each.0) (again_sent me handle l xs each.1)

reminds_sent : (me handle : ℕ) (l : PrimaryLease) (xs : List (ℕ × Open)) → AreNumbered xs → AllCounted (reminds_of me handle l xs)
reminds_sent me handle l [] each = tt
reminds_sent me handle l (x ∷ xs) each = (tt, again_sent me handle l (x ∷ xs) each)

all_reminded : (me : ℕ) (moment : Moment) (es : List (ℕ × PrimaryLease)) → AllByRecursion EntryCounts es → AllCounted (reminds_all me moment es)
all_reminded me moment [] each = tt
all_reminded me moment (e ∷ es) each =
    both_sent (cond (is_over moment e.1) [] (reminds me e.0 e.1)) (reminds_all me moment es)
    (either_sent (is_over moment e.1) [] (reminds me e.0 e.1) tt (reminds_sent me e.0 e.1 e.1.outbox each.0.0)) (all_reminded me moment es each.1)

pub tick_counts : (s : Server) (moment : Moment) → IsCountedServer s → GoesCounted (tick s moment)
tick_counts s moment counted =
    let leases : Leases = s.dropped.leases in
    record {
      after = record { slots = counted.slots; leases = standing_count moment leases counted.leases };
      sent = all_reminded s.me moment (fin.entries leases) (entries_count (fin.entries leases) (fin.entries_sorted leases) (λ q. subst IsCountedLease (fin.get-entries leases q) (counted.leases q)));
    }

-- ---- other events

pub restart_counts : (s : Server) → IsCountedServer s → IsCountedServer (restart s)
restart_counts s counted = record { slots = counted.slots; leases = none_held }

put_counts : (handle : ℕ) (s : Server) (m : Result Slot Refusal) → IfOk m IsCountedSlot → IsCountedServer s → IfOk (in_store s (put_slot handle (store_of s) m)) IsCountedServer
put_counts handle s (Ok t) made counted = record { slots = with_slot_counts handle t (store_of s) made counted.slots; leases = counted.leases }
put_counts handle s (Err e) made counted = tt

pub lost_counts : (handle : ℕ) (s : Server) → IsCountedServer s → IfOk (lose handle s) IsCountedServer
lost_counts handle s counted = put_counts handle s (slots.lose (slot_in handle s)) (lose_counts (slot_in handle s)) counted

pub struck_counts : (handle block : ℕ) (s : Server) → IsCountedServer s → IfOk (damage handle block s) IsCountedServer
struck_counts handle block s counted = put_counts handle s (slots.damage block (slot_in handle s)) (damaged_counts block (slot_in handle s) (counted.slots handle)) counted

pub new_counts : (me block chunk : ℕ) → IsCountedServer (new me block chunk)
new_counts me block chunk = record { slots = λ q. subst (λ (o : Option Slot). IsCountedSlot (or_nothing o)) (sym (fin.get-empty nat_cmp q)) (tt, tt); leases = none_held }

refused_counts : (s : Server) (m : Result Server Refusal) → IfOk m IsCountedServer → IsCountedServer s → IsCountedServer (unless_refused s m)
refused_counts s (Ok after) made counted = made
refused_counts s (Err e) made counted = counted

event_counts : (e : Event) (s : Server) → HearsCounted e → IsCountedServer s → IsCountedServer (behind e s)
event_counts (Hears message moment) s said counted = (heard_counts s message moment counted said).after
event_counts (Ticks moment) s said counted = (tick_counts s moment counted).after
event_counts Restarts s said counted = restart_counts s counted
event_counts (runs.Loses handle) s said counted = refused_counts s (lose handle s) (lost_counts handle s counted) counted
event_counts (runs.Damages handle block) s said counted = refused_counts s (damage handle block s) (struck_counts handle block s counted) counted

pub run_counts : (events : List Event) (s : Server) → AllByRecursion HearsCounted events → IsCountedServer s → IsCountedServer (behind_all events s)
run_counts [] s said counted = counted
run_counts (e ∷ events) s said counted = run_counts events (behind e s) said.1 (event_counts e s said.0 counted)
