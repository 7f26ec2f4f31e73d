-- What a message about a chunk comes to has counts that 64 bits hold.
use Rattle.std.proofs.Common.{◌≡◌, ◌<◌, ◌^◌, ℕ, zero, suc, ◌+◌, Bool, true, false, cond, not, List, [], ◌∷◌, ◌++◌, map, length, max, replicate, slice_set, Option, Some, None, refl, subst, arith}
use Rattle.std.specs.Prelude.{Result, Ok, Err, IfOk, ◌==◌, nat_le, nat_lt, slice_index_or}
use Rattle.std.specs.List.{AllByRecursion, filter, find, list_any}
use Rattle.std.proofs.lemmas.Bool.Decides.{nat_tests}
use Rattle.gs_base.specs.Told.{IsNumber}
use Rattle.gs_base.specs.Stamps.{is_same}
use Rattle.gs_base.specs.declared.numbers.ReqId.{ReqId}
use Rattle.gs_base.specs.declared.numbers.Stamp.{Stamp}
use Rattle.gs_base.specs.declared.refusal.Refusal.{Refusal}
use Rattle.gs_base.specs.declared.refusal.Refusal.TheVariants as refusals
use Rattle.gs_lease.specs.declared.held.Grant.{Grant}
use Rattle.gs_replica.specs.Copies.{Image, SealedImage}
use Rattle.gs_replica.specs.declared.op.Done.{Done}
use Rattle.gs_replica.specs.declared.op.EditOutcome.TheVariants.{Padded}
use Rattle.gs_msg.specs.Ops.{in_replica}
use Rattle.gs_msg.specs.declared.body.Given.{Given}
use Rattle.gs_msg.specs.declared.chunk.Chunk.{Chunk}
use Rattle.gs_msg.specs.declared.chunk.Chunk.TheVariants as chunks
use Rattle.gs_msg.specs.declared.message.Message.{Message}
use Rattle.gs_msg.specs.declared.node.NodeId.{NodeId}
use Rattle.gs_msg.specs.declared.node.NodeId.TheVariants as nodes
use Rattle.gs_msg.specs.declared.op.Op.{Op}
use Rattle.gs_store.specs.Moves as moves
use Rattle.gs_store.specs.Serving.{apply, done_in}
use Rattle.gs_store.specs.Slots.{Live, Slot, check_grant, count_of, first_of, take_lease, unless_live, unless_promised, when}
use Rattle.gs_store.specs.Slots as slots
use Rattle.gs_server_lease.specs.declared.lease.Open.{Open}
use Rattle.gs_server.specs.declared.turn.KeptRefusal.{KeptRefusal}
use Rattle.gs_server.specs.Edits.{bytes_of, bytes_or_none, declines, edit, is_known_of_all, new_edit, numbers_or_passes, refused_edit, refused_once, repeated, unless_done, unless_kept, unless_next, unless_numbered, unless_there}
use Rattle.gs_server.specs.Edits as edits
use Rattle.gs_server.specs.Fetches as fetching
use Rattle.gs_server.specs.Holding.{from_server, goes_on, is_held, supplies_to, takes, unless_leased, wants_bytes}
use Rattle.gs_server.specs.Holding as holding
use Rattle.gs_server_lease.specs.Leases.{PrimaryLease, done_at_once, done_of, dones, forward_of, forwards, heard, hears, is_acknowledged, lacks, opens_edit, renews, settled, supplies, told_by, waits_for, with_bytes}
use Rattle.gs_server_lease.specs.Numbering.{is_passed}
use Rattle.gs_server.specs.Places.{Here, LeaseBecomes, LeaseChange, LeaseSpent, LeaseStays, Part, Place, SlotBecomes, SlotChange, SlotMarked, SlotStays, about, count_or_none, damaged_block, marked_by, of_promise, or_else, other_epoch, refused, sending, tells_bad, unanswered}
use Rattle.gs_server.specs.Promises as messages
use Rattle.gs_server.specs.Servers.{about_chunk}
use Rattle.gs_laws_server.specs.servers.Counted.{IsCountedAbout, IsCountedLease, IsCountedLive, IsCountedMessage, IsCountedSlot}
use Rattle.gs_laws_server.specs.servers.Editing.{numbered_edit}
use Rattle.gs_laws_server.proofs.lemmas.servers.CountedSlots.{IsCountedCopy, advance_counts, apply_counts, copy_in_counts, copy_out_counts, create_counts, drop_counts, lease_counts, no_edits}
use Rattle.gs_laws_server.proofs.lemmas.servers.Tests.{head_none, next_number, not_met}

-- ---- what is sent

abbrev pub AllCounted : List Message → Type 0
AllCounted messages = AllByRecursion IsCountedMessage messages

pub both_sent : (xs ys : List Message) → AllCounted xs → AllCounted ys → AllCounted (xs ++ ys)
both_sent [] ys first second = second
both_sent (x ∷ xs) ys first second = (first.0, both_sent xs ys first.1 second)

pub either_sent : (test : Bool) (xs ys : List Message) → AllCounted xs → AllCounted ys → AllCounted (cond test xs ys)
either_sent true xs ys first second = first
either_sent false xs ys first second = second

pub bad_sent : (h : Here) (s : Slot) (o : Option ℕ) → AllCounted (tells_bad h s o)
bad_sent h s None = tt
bad_sent h s (Some block) = (tt, tt)

-- ---- a lease

abbrev pub AreNumbered : List (ℕ × Open) → Type 0
AreNumbered edits = AllByRecursion (λ (e : ℕ × Open). IsNumber e.0) edits

abbrev IsNumbered : Option (ℕ × Open) → Type 0
IsNumbered None = Unit {0}
IsNumbered (Some e) = IsNumber e.0

none_told : (many : ℕ) → AllByRecursion IsNumber (replicate many 0)
none_told zero = tt
none_told (suc many) = (no_edits, none_told many)

told_number : (told : List ℕ) (server : ℕ) → AllByRecursion IsNumber told → IsNumber (slice_index_or told server 0)
told_number [] server each = no_edits
told_number (n ∷ told) zero each = each.0
told_number (n ∷ told) (suc server) each = told_number told server each.1

set_numbers : (told : List ℕ) (server n : ℕ) → AllByRecursion IsNumber told → IsNumber n → AllByRecursion IsNumber (slice_set told server n)
set_numbers [] server n each number = tt
set_numbers (m ∷ told) zero n each number = (number, each.1)
set_numbers (m ∷ told) (suc server) n each number = (each.0, set_numbers told server n each.1 number)

greater : (a b : ℕ) → IsNumber a → IsNumber b → IsNumber (max a b)
greater a b first second = let h : max a b < 2 ^ 64 = omega arith in h

heard_numbers : (server count : ℕ) (told : List ℕ) → AllByRecursion IsNumber told → IsNumber count → AllByRecursion IsNumber (heard server count told)
heard_numbers server count told each number = set_numbers told server (max (told_by told server) count) each (greater (told_by told server) count (told_number told server each) number)

either_numbered : (test : Bool) (xs ys : List (ℕ × Open)) → AreNumbered xs → AreNumbered ys → AreNumbered (cond test xs ys)
either_numbered true xs ys first second = first
either_numbered false xs ys first second = second

either_number : (test : Bool) (o p : Option (ℕ × Open)) → IsNumbered o → IsNumbered p → IsNumbered (cond test o p)
either_number true o p first second = first
either_number false o p first second = second

fewer_numbered : (test : (ℕ × Open) → Bool) (xs : List (ℕ × Open)) → AreNumbered xs → AreNumbered (filter test xs)
fewer_numbered test [] each = tt
fewer_numbered test (x ∷ xs) each = let rest = fewer_numbered test xs each.1 in either_numbered (test x) (x ∷ filter test xs) (filter test xs) (each.0, rest) rest

found_number : (test : (ℕ × Open) → Bool) (xs : List (ℕ × Open)) → AreNumbered xs → IsNumbered (find test xs)
found_number test [] each = tt
found_number test (x ∷ xs) each = either_number (test x) (Some x) (find test xs) each.0 (found_number test xs each.1)

one_more_numbered : (g : Grant) (told : List ℕ) (xs : List (ℕ × Open)) (number : ℕ) (e : Open) → AreNumbered xs → IsNumber number → AreNumbered (waits_for number e (record { grant = g; told = told; outbox = xs })).outbox
one_more_numbered g told [] number e each next = (next, tt)
one_more_numbered g told (x ∷ xs) number e each next =
    either_numbered (number == x.0) ((x.0, e) ∷ xs) (x ∷ (waits_for number e (record { grant = g; told = told; outbox = xs })).outbox) each (each.0, one_more_numbered g told xs number e each.1 next)

abbrev pub Counts : PrimaryLease → Type 0
Counts l = IsCountedLease (Some l)

hears_counts : (server count : ℕ) (l : PrimaryLease) → Counts l → IsNumber count → Counts (hears server count l)
hears_counts server count l counted number = (counted.0, heard_numbers server count l.told counted.1 number)

settled_counts : (l : PrimaryLease) → Counts l → Counts (settled l)
settled_counts l counted = (fewer_numbered (λ e. not (is_acknowledged l e.0)) l.outbox counted.0, counted.1)

opens_counts : (me number : ℕ) (e : Open) (l : PrimaryLease) → Counts l → IsNumber number → Counts (opens_edit me number e l)
opens_counts me number e l counted next = by_case (is_acknowledged (hears me number l) number)
  where
    now : Counts (hears me number l)
    now = hears_counts me number l counted next

    by_case : (b : Bool) → Counts (cond b (hears me number l) (waits_for number e (hears me number l)))
    by_case true = now
    by_case false = (one_more_numbered l.grant (heard me number l.told) l.outbox number e counted.0 next, now.1)

dones_sent : (me : ℕ) (xs : List (ℕ × Open)) → AllCounted (map (done_of me) xs)
dones_sent me [] = tt
dones_sent me (x ∷ xs) = (tt, dones_sent me xs)

pub forwards_sent : (me handle : ℕ) (l : PrimaryLease) (bytes : Option (List ℕ)) (e : ℕ × Open) (servers : List ℕ) → IsNumber e.0 → AllCounted (map (forward_of me handle l bytes e) servers)
forwards_sent me handle l bytes e [] number = tt
forwards_sent me handle l bytes e (server ∷ servers) number = (number, forwards_sent me handle l bytes e servers number)

supplied : (me handle : ℕ) (l : PrimaryLease) (server : ℕ) (o : Option (ℕ × Open)) → IsNumbered o → AllCounted (with_bytes me handle l server o)
supplied me handle l server None number = tt
supplied me handle l server (Some e) number = (number, tt)

-- ---- parts

abbrev pub SlotCounts : SlotChange → Type 0
SlotCounts SlotStays = Unit {0}
SlotCounts (SlotBecomes s) = IsCountedSlot s
SlotCounts (SlotMarked block) = Unit {0}

abbrev pub LeaseCounts : LeaseChange → Type 0
LeaseCounts LeaseStays = Unit {0}
LeaseCounts (LeaseBecomes l) = Counts l
LeaseCounts LeaseSpent = Unit {0}

pub record IsCountedPart (part : Part) : Type 0 where
  pub slot : SlotCounts part.slot
  pub lease : LeaseCounts part.lease
  pub sent : AllCounted part.sent

pub marks : (o : Option ℕ) → SlotCounts (marked_by o)
marks None = tt
marks (Some block) = tt

pub spends : (promise : Stamp) (lease : Option PrimaryLease) → LeaseCounts (of_promise promise lease)
spends promise None = tt
spends promise (Some l) = by_case (is_same l.grant.stamp promise)
  where
    by_case : (b : Bool) → LeaseCounts (cond b LeaseStays LeaseSpent)
    by_case true = tt
    by_case false = tt

or_part : (o : Option Refusal) (refuses : Refusal → Part) (part : Part) → ((e : Refusal) → IsCountedPart (refuses e)) → (o ≡ None → IsCountedPart part) → IsCountedPart (or_else o refuses part)
or_part None refuses part each counted = counted refl
or_part (Some e) refuses part each counted = each e

either_part : (test : Bool) (x y : Part) → IsCountedPart x → IsCountedPart y → IsCountedPart (cond test x y)
either_part true x y first second = first
either_part false x y first second = second

sending_part : (sent : List Message) → AllCounted sent → IsCountedPart (sending sent)
sending_part sent counted = record { slot = tt; lease = tt; sent = counted }

unanswered_part : (e : Refusal) → IsCountedPart (unanswered e)
unanswered_part e = record { slot = tt; lease = tt; sent = tt }

refused_part : (h : Here) (s : Slot) (answer : Message) (e : Refusal) → IsCountedMessage answer → IsCountedPart (refused h s answer e)
refused_part h s answer e counted = record { slot = marks (damaged_block e); lease = tt; sent = (counted, bad_sent h s (damaged_block e)) }

pub promised_count : (live : Option Live) → IsCountedLive live → IsNumber (count_or_none (count_of live))
promised_count None counted = no_edits
promised_count (Some l) counted = counted.0

numbered_next : (count : ℕ) → IsNumber count → (count == edits.last_count) ≡ false → IsNumber (count + 1)
numbered_next count number apart = let h : count + 1 < 2 ^ 64 = grind (arith, nat_tests) in h

module _ (h : Here) (p : Place) (slot : IsCountedSlot p.slot) (lease : IsCountedLease p.lease) where
  unpromised_part : (stamp : Stamp) (e : Refusal) → IsCountedPart (messages.unpromised h p stamp e)
  unpromised_part stamp e = refused_part h p.slot (about h nodes.Master (chunks.Unpromised stamp e)) e tt

  promises_part : (stamp : Stamp) (m : Result Slot Refusal) → IfOk m IsCountedSlot → IsCountedPart (messages.promises h p stamp m)
  promises_part stamp (Ok s) counted = record { slot = counted; lease = spends s.promise p.lease; sent = (promised_count s.live counted.0, tt) }
  promises_part stamp (Err e) counted = unpromised_part stamp e

  sends_part : (stamp : Stamp) (target : ℕ) (m : Result (Image × Option SealedImage) Refusal) → IfOk m IsCountedCopy → IsCountedPart (messages.sends_copy h p stamp target m)
  sends_part stamp target (Ok copy) counted = record { slot = tt; lease = tt; sent = (counted, tt) }
  sends_part stamp target (Err e) counted = unpromised_part stamp e

  drops_part : (m : Result Slot Refusal) → IfOk m IsCountedSlot → IsCountedPart (messages.drops m)
  drops_part (Ok s) counted = record { slot = counted; lease = tt; sent = tt }
  drops_part (Err e) counted = unanswered_part e

  takes_part : (given : Grant) (m : Result Slot Refusal) → IfOk m IsCountedSlot → IsCountedPart (takes given m)
  takes_part given (Ok s) counted = record { slot = counted; lease = (tt, none_told 16); sent = tt }
  takes_part given (Err e) counted = unanswered_part e

  goes_on_part : (next : PrimaryLease → PrimaryLease) (sent : PrimaryLease → List Message) (o : Option PrimaryLease) → ((l : PrimaryLease) → Counts l → Counts (next l)) → ((l : PrimaryLease) → Counts l → AllCounted (sent l)) → IsCountedLease o → IsCountedPart (goes_on next sent o)
  goes_on_part next sent None each told counted = sending_part [] tt
  goes_on_part next sent (Some l) each told counted = record { slot = tt; lease = each l counted; sent = told l counted }

  supplies_part : (e : Refusal) (server : ℕ) (o : Option PrimaryLease) → IsCountedLease o → IsCountedPart (supplies_to h e server o)
  supplies_part e server None counted = sending_part [] tt
  supplies_part e server (Some l) counted =
      let found : Option (ℕ × Open) = find (λ edit. lacks l.told edit.0 server) l.outbox in
      sending_part (cond (wants_bytes e) (supplies h.me h.handle server l) [])
      (either_sent (wants_bytes e) (supplies h.me h.handle server l) []
      (either_sent (list_any (λ member. member == server) l.grant.members) (with_bytes h.me h.handle l server found) []
      (supplied h.me h.handle l server found (found_number (λ edit. lacks l.told edit.0 server) l.outbox counted.0)) tt) tt)

  gives_part : (req : ReqId) (m : Result Given Refusal) → IsCountedPart (fetching.gives h p req m)
  gives_part req (Ok found) = sending_part (fetching.bytes h req (Ok found) ∷ []) (tt, tt)
  gives_part req (Err e) = refused_part h p.slot (fetching.bytes h req (Err e)) e tt

  from_part : (from : NodeId) (part : ℕ → Part) → ((server : ℕ) → IsCountedPart (part server)) → IsCountedPart (from_server from part)
  from_part (nodes.Server server) part each = each server
  from_part nodes.Master part each = unanswered_part refusals.Stray
  from_part (nodes.Client client) part each = unanswered_part refusals.Stray

  -- edits
  refused_edit_part : (req : ReqId) (e : Refusal) → IsCountedPart (refused_edit h p req e)
  refused_edit_part req e = record { slot = marks (damaged_block e); lease = tt; sent = (tt, bad_sent h p.slot (damaged_block e)) }

  once_part : (req : ReqId) (e : Refusal) → IsCountedPart (refused_once h req e)
  once_part req e = record { slot = tt; lease = tt; sent = (tt, tt) }

  kept_part : (req : ReqId) (kept : Option KeptRefusal) (part : Part) → IsCountedPart part → IsCountedPart (unless_kept h req kept part)
  kept_part req None part counted = counted
  kept_part req (Some kept) part counted =
      either_part (nat_lt req.number kept.number) (refused_once h req refusals.Old) (cond (req.number == kept.number) (refused_once h req kept.refusal) part) (once_part req refusals.Old)
      (either_part (req.number == kept.number) (refused_once h req kept.refusal) part (once_part req kept.refusal) counted)

  done_part : (req : ReqId) (last : Option Done) (part : Part) → IsCountedPart part → IsCountedPart (unless_done h p req last part)
  done_part req None part counted = counted
  done_part req (Some last) part counted =
      either_part (req.number == last.number) (repeated h p req last.outcome) (cond (nat_lt req.number last.number) (refused_once h req refusals.Old) part)
      (either_part (is_known_of_all req p.slot p.lease) (sending (edits.done h req (Ok last.outcome) ∷ [])) (sending []) (sending_part (edits.done h req (Ok last.outcome) ∷ []) (tt, tt)) (sending_part [] tt))
      (either_part (nat_lt req.number last.number) (refused_once h req refusals.Old) part (once_part req refusals.Old) counted)

  -- a primary numbers an edit below the last count alone
  numbers_part : (s : Slot) (l : PrimaryLease) (number : ℕ) (e : Open) → IsCountedSlot s → Counts l → IsNumber number → IsCountedPart (edits.numbers h s l number e)
  numbers_part s l number e counted held next = record {
    slot = counted;
    lease = opens_counts h.me number e l held next;
    sent = both_sent (forwards h.me h.handle l (number, e)) (done_at_once h.me number e l)
        (forwards_sent h.me h.handle l None (number, e) (filter (λ server. not (server == h.me)) l.grant.members) next)
        (either_sent (is_acknowledged (hears h.me number l) number) (done_of h.me (number, e) ∷ []) [] (tt, tt) tt);
  }

  numbers_if_part : (l : PrimaryLease) (count : ℕ) (e : Open) (m : Result Slot Refusal) → Counts l → IsNumber count → (IsNumber (count + 1) → IfOk m IsCountedSlot) → IsCountedPart (edits.numbers_if h p l count e m)
  numbers_if_part l count e (Err refusal) held number made = refused_edit_part e.req refusal
  numbers_if_part l count e (Ok s) held number made = by_case (count == edits.last_count) refl
    where
      by_case : (b : Bool) → (count == edits.last_count) ≡ b → IsCountedPart (cond b (refused_edit h p e.req refusals.Exhausted) (edits.numbers h s l (count + 1) e))
      by_case true is = refused_edit_part e.req refusals.Exhausted
      by_case false is = let next : IsNumber (count + 1) = numbered_next count number is in numbers_part s l (count + 1) e (made next) held next

  numbered_part : (req : ReqId) (op : Op) (bytes : List ℕ) (live : Option Live) (held : Option PrimaryLease) → p.slot.live ≡ live → IsCountedLease held → IsCountedPart (numbers_or_passes h p req op bytes live held)
  numbered_part req op bytes None held lives counted = refused_edit_part req refusals.NoReplica
  numbered_part req op bytes (Some live) None lives counted = refused_edit_part req refusals.NotPrimary
  numbered_part req op bytes (Some live) (Some l) lives counted =
      let e : Open = numbered_edit h req op bytes live in
      let count : ℕ = live.replica.held.count in
      let number : IsNumber count = (subst IsCountedLive lives slot.0).0 in
      either_part (is_passed h.chunk (length live.replica.held.chunk.bytes) op) (sending (edits.done h req (Ok Padded) ∷ [])) (edits.numbers_as h p live l e) (sending_part (edits.done h req (Ok Padded) ∷ []) (tt, tt))
      (numbers_if_part l count e (apply l.grant.stamp (count + 1) req (in_replica e.op) e.bytes p.slot) counted number
      (λ next. apply_counts l.grant.stamp (count + 1) req (in_replica e.op) e.bytes p.slot live lives next slot))

  -- a member applies the next number alone, which is the forward's
  declines_part : (from : NodeId) (stamp : Stamp) (e : Refusal) → IsCountedPart (declines h p from stamp e)
  declines_part from stamp e = refused_part h p.slot (about h from (chunks.Nack stamp e)) e tt

  taken_part : (from : NodeId) (stamp : Stamp) (number : ℕ) (op : Op) (m : Result Slot Refusal) → IsNumber number → IfOk m IsCountedSlot → IsCountedPart (edits.takes_if h p from stamp number op m)
  taken_part from stamp number op (Ok s) next counted = record { slot = counted; lease = tt; sent = (next, tt) }
  taken_part from stamp number op (Err e) next counted = declines_part from stamp e

  forwarded_part : (from : NodeId) (stamp : Stamp) (number : ℕ) (req : ReqId) (op : Op) (bytes : Option (List ℕ)) (live : Option Live) → p.slot.live ≡ live → IsNumber number → IsCountedPart (edits.takes h p from stamp number req op bytes live)
  forwarded_part from stamp number req op bytes None lives next = declines_part from stamp refusals.NoReplica
  forwarded_part from stamp number req op bytes (Some live) lives next = by_case (nat_le number live.replica.held.count) refl
    where
      by_case : (b : Bool) → nat_le number live.replica.held.count ≡ b → IsCountedPart (cond b (edits.acknowledges h from stamp live.replica.held.count) (edits.takes_next h p from stamp number req op bytes live.replica.held.count))
      by_case true is = sending_part (about h from (chunks.Ack stamp live.replica.held.count) ∷ []) ((subst IsCountedLive lives slot.0).0, tt)
      by_case false above =
          or_part (unless_next live.replica.held.count number bytes) (declines h p from stamp) (edits.takes_if h p from stamp number op (apply stamp number req (in_replica op) (bytes_or_none bytes) p.slot)) (declines_part from stamp)
          (λ none.
          let below = not_met (nat_lt (live.replica.held.count + 1) number) (refusals.Gap live.replica.held.count) (head_none (when (nat_lt (live.replica.held.count + 1) number) (refusals.Gap live.replica.held.count)) (unless_there bytes ∷ []) none) in
          taken_part from stamp number op (apply stamp number req (in_replica op) (bytes_or_none bytes) p.slot) next
          (apply_counts stamp number req (in_replica op) (bytes_or_none bytes) p.slot live lives (subst IsNumber (next_number number live.replica.held.count above below) next) slot))

  -- any message
  pub chunk_part : (from : NodeId) (chunk : Chunk) → IsCountedAbout chunk → IsCountedPart (about_chunk h p from chunk)
  chunk_part from (chunks.Create stamp) said =
      or_part (other_epoch h stamp.epoch) (messages.unpromised h p stamp) (messages.promises h p stamp (slots.create h.block h.chunk stamp p.slot)) (unpromised_part stamp)
      (λ _. promises_part stamp (slots.create h.block h.chunk stamp p.slot) (create_counts h.block h.chunk stamp p.slot slot))
  chunk_part from (chunks.Advance stamp) said =
      or_part (other_epoch h stamp.epoch) (messages.unpromised h p stamp) (messages.promises h p stamp (slots.advance stamp p.slot)) (unpromised_part stamp)
      (λ _. promises_part stamp (slots.advance stamp p.slot) (advance_counts stamp p.slot slot))
  chunk_part from (chunks.Grant given) said =
      or_part (first_of (other_epoch h given.stamp.epoch ∷ check_grant given.stamp p.slot ∷ [])) unanswered (cond (is_held given.stamp p.lease) (sending []) (takes given (take_lease given.stamp p.slot))) unanswered_part
      (λ _. either_part (is_held given.stamp p.lease) (sending []) (takes given (take_lease given.stamp p.slot)) (sending_part [] tt) (takes_part given (take_lease given.stamp p.slot) (lease_counts given.stamp p.slot slot)))
  chunk_part from (chunks.Renewed stamp end) said =
      or_part (unless_leased stamp p.slot p.lease) unanswered (goes_on (renews end) (λ l. []) p.lease) unanswered_part (λ _. goes_on_part (renews end) (λ l. []) p.lease (λ l counted. counted) (λ l counted. tt) lease)
  chunk_part from (chunks.Edit req stamp op) said =
      let bytes : List ℕ = bytes_or_none (bytes_of op None h.pushed) in
      done_part req (done_in p.slot.live req.client.0) (unless_kept h req h.refused (new_edit h p req stamp op))
      (kept_part req h.refused (new_edit h p req stamp op)
      (or_part (unless_numbered h p stamp op) (refused_edit h p req) (numbers_or_passes h p req op bytes p.slot.live p.lease) (refused_edit_part req) (λ _. numbered_part req op bytes p.slot.live p.lease refl lease)))
  chunk_part from (chunks.Forward stamp number req op carried) said =
      or_part (first_of (unless_live p.slot.live ∷ unless_promised stamp p.slot ∷ [])) (declines h p from stamp) (edits.takes h p from stamp number req op (bytes_of op carried h.pushed) p.slot.live) (declines_part from stamp)
      (λ _. forwarded_part from stamp number req op (bytes_of op carried h.pushed) p.slot.live refl said)
  chunk_part from (chunks.Ack stamp count) said = from_part from (λ server. holding.ack h p server stamp count) (λ server.
      or_part (unless_leased stamp p.slot p.lease) unanswered (goes_on (λ l. settled (hears server count l)) (λ l. dones h.me (hears server count l)) p.lease) unanswered_part
      (λ _. goes_on_part (λ l. settled (hears server count l)) (λ l. dones h.me (hears server count l)) p.lease (λ l counted. settled_counts (hears server count l) (hears_counts server count l counted said))
      (λ l counted. dones_sent h.me (filter (λ e. is_acknowledged (hears server count l) e.0) l.outbox)) lease))
  chunk_part from (chunks.Nack stamp refusal) said = from_part from (λ server. holding.nack h p server stamp refusal) (λ server.
      or_part (unless_leased stamp p.slot p.lease) unanswered (supplies_to h refusal server p.lease) unanswered_part (λ _. supplies_part refusal server p.lease lease))
  chunk_part from (chunks.Fetch req stamp epoch asked) said =
      or_part (other_epoch h epoch) (fetching.refuses h p req) (fetching.gives h p req (fetching.given stamp asked p.slot)) (λ e. refused_part h p.slot (fetching.bytes h req (Err e)) e tt) (λ _. gives_part req (fetching.given stamp asked p.slot))
  chunk_part from (chunks.CopyOut stamp target with_sealed) said =
      or_part (other_epoch h stamp.epoch) (messages.unpromised h p stamp) (messages.sends_copy h p stamp target (moves.copy_out stamp with_sealed p.slot)) (unpromised_part stamp)
      (λ _. sends_part stamp target (moves.copy_out stamp with_sealed p.slot) (copy_out_counts stamp with_sealed p.slot slot))
  chunk_part from (chunks.CopyIn stamp image sealed) said =
      or_part (other_epoch h stamp.epoch) (messages.unpromised h p stamp) (messages.promises h p stamp (moves.copy_in h.block h.chunk stamp image sealed p.slot)) (unpromised_part stamp)
      (λ _. promises_part stamp (moves.copy_in h.block h.chunk stamp image sealed p.slot) (copy_in_counts h.block h.chunk stamp image sealed p.slot said.0 said.1 slot))
  chunk_part from (chunks.Drop epoch promise) said =
      or_part (other_epoch h epoch) unanswered (messages.drops (slots.drop_replica promise p.slot)) unanswered_part (λ _. drops_part (slots.drop_replica promise p.slot) (drop_counts promise p.slot slot))
  chunk_part from (chunks.Promised stamp count carried) said = unanswered_part refusals.Stray
  chunk_part from (chunks.Unpromised stamp refusal) said = unanswered_part refusals.Stray
  chunk_part from (chunks.Renew stamp) said = unanswered_part refusals.Stray
  chunk_part from (chunks.Bad stamp) said = unanswered_part refusals.Stray
