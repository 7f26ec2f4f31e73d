-- Which call of a chunk's slot an event makes.
use Rattle.std.proofs.Common.{◌≡◌, ℕ, ◌+◌, Bool, true, false, cond, List, [], ◌∷◌, length, Option, Some, None, refl, sym, ap, subst, ◌∙◌}
use Rattle.std.specs.Prelude.{Result, Ok, Err, ◌==◌, nat_lt, nat_le, option_map}
use Rattle.std.specs.FinMap as fin
use Rattle.std.proofs.lemmas.Bool.{eqb-true}
use Rattle.gs_base.specs.declared.numbers.Moment.{Moment}
use Rattle.gs_base.specs.declared.numbers.Stamp.{Stamp}
use Rattle.gs_base.specs.declared.numbers.ReqId.{ReqId}
use Rattle.gs_base.specs.Stamps.{is_same}
use Rattle.gs_base.specs.declared.epoch.EpochEnd.{EpochEnd}
use Rattle.gs_base.specs.declared.epoch.EpochEnd.TheVariants.{Prepare, Finalize, Rollback}
use Rattle.gs_base.specs.declared.refusal.Refusal.{Refusal}
use Rattle.gs_base.specs.declared.refusal.Refusal.TheVariants as refusals
use Rattle.gs_lease.specs.declared.held.Grant.{Grant}
use Rattle.gs_replica.specs.Copies.{Image, SealedImage, and_then}
use Rattle.gs_replica.specs.Held.{Held}
use Rattle.gs_replica.specs.declared.op.Done.{Done}
use Rattle.gs_replica.specs.declared.op.EditOutcome.TheVariants.{Padded}
use Rattle.gs_msg.specs.declared.op.Op.{Op}
use Rattle.gs_msg.specs.Ops.{in_replica}
use Rattle.gs_msg.specs.declared.node.NodeId.{NodeId}
use Rattle.gs_msg.specs.declared.node.NodeId.TheVariants as nodes
use Rattle.gs_msg.specs.declared.message.Message.{Message}
use Rattle.gs_msg.specs.declared.body.Body.{Body}
use Rattle.gs_msg.specs.declared.body.Body.TheVariants as bodies
use Rattle.gs_msg.specs.declared.body.Given.{Given}
use Rattle.gs_msg.specs.declared.chunk.Chunk.{Chunk}
use Rattle.gs_msg.specs.declared.chunk.Chunk.TheVariants as chunks
use Rattle.gs_store.specs.Slots.{Live, Slot, first_of, when, unless_live, unless_promised, check_grant, take_lease}
use Rattle.gs_store.specs.Slots as slots
use Rattle.gs_store.specs.Serving.{apply, done_in}
use Rattle.gs_store.specs.Moves as moves
use Rattle.gs_store.specs.Stores.{Store, slot_of, set_slot, with_slot, put_slot}
use Rattle.gs_store.specs.Stores as stores
use Rattle.gs_store.specs.Calls.{Call, Creates, Advances, CopiesIn, TakesCopy, Drops, TakesLease, Loses, Damages, Applies, called}
use Rattle.gs_store.proofs.StoreLaws.{own_slot, other_slot, slot_goes}
use Rattle.gs_server.specs.declared.turn.KeptRefusal.{KeptRefusal}
use Rattle.gs_server_lease.specs.declared.lease.Open.{Open}
use Rattle.gs_server_lease.specs.Leases.{PrimaryLease, renews, settled, hears, dones}
use Rattle.gs_server_lease.specs.Numbering.{is_too_long, is_passed}
use Rattle.gs_server.specs.Places.{Place, Here, Part, SlotChange, SlotStays, SlotBecomes, SlotMarked, slot_after, marked_by, damaged_block, LeaseStays, or_else, other_epoch, unanswered, sending, changing, promising}
use Rattle.gs_server.specs.Promises as messages
use Rattle.gs_server.specs.Promises.{Copying}
use Rattle.gs_server.specs.Holding.{takes, goes_on, supplies_to, from_server, unless_leased, is_held}
use Rattle.gs_server.specs.Holding as holding
use Rattle.gs_server.specs.Edits.{refused_edit, refused_once, repeated, is_known_of_all, unless_kept, unless_done, unless_numbered, unless_holding, unless_over, unless_there, numbers_or_passes, bytes_of, bytes_or_none, declines}
use Rattle.gs_server.specs.Edits as edits
use Rattle.gs_server.specs.Fetches as fetching
use Rattle.gs_server.specs.Servers.{Server, place_of, here_of, store_of, change_slot, change_buffer, changed_by, in_store, copies, request_in, about_chunk, handle_body}
use Rattle.gs_server.specs.inner.Learning.{next_of}
use Rattle.gs_server.specs.Runs.{Event, Hears, Ticks, Restarts, unless_refused, behind, slot_in, BecomesBy}
use Rattle.gs_server.specs.Runs as runs
use Rattle.gs_server.proofs.Happening.{own_place, step_if}
use Rattle.gs_laws_server.specs.servers.Editing.{numbered_edit}
use Rattle.gs_laws_server.specs.servers.Calling.{numbered_call, asked_call, made_by, call_at, copy_taken, first_call, copying_call, end_call, heard_call, if_done, call_by}
use Rattle.gs_laws_server.proofs.lemmas.servers.Tests.{head_none, tail_none, not_met, first_same, same_stamp}

-- ---- a message about a chunk makes of its slot what one call makes, or nothing

abbrev Calls : Here → Slot → Option Call → Part → Type 0
Calls h s asked part = BecomesBy h.block h.chunk s (made_by part.slot asked) (slot_after s part.slot)

module _ (h : Here) (s : Slot) (asked : Option Call) where
  marks : (o : Option ℕ) → BecomesBy h.block h.chunk s (made_by (marked_by o) asked) (slot_after s (marked_by o))
  marks None = refl
  marks (Some block) = refl

  or_calls : (o : Option Refusal) (refuses : Refusal → Part) (part : Part) → ((e : Refusal) → Calls h s asked (refuses e)) → (o ≡ None → Calls h s asked part) → Calls h s asked (or_else o refuses part)
  or_calls None refuses part each calls = calls refl
  or_calls (Some e) refuses part each calls = each e

  either_calls : (test : Bool) (x y : Part) → Calls h s asked x → Calls h s asked y → Calls h s asked (cond test x y)
  either_calls true x y first second = first
  either_calls false x y first second = second

  unpromised_calls : (p : Place) (stamp : Stamp) (e : Refusal) → Calls h s asked (messages.unpromised h p stamp e)
  unpromised_calls p stamp e = marks (damaged_block e)

  sends_calls : (p : Place) (stamp : Stamp) (target : ℕ) (m : Result (Image × Option SealedImage) Refusal) → Calls h s asked (messages.sends_copy h p stamp target m)
  sends_calls p stamp target (Ok copy) = refl
  sends_calls p stamp target (Err e) = marks (damaged_block e)

  goes_on_calls : (next : PrimaryLease → PrimaryLease) (sent : PrimaryLease → List Message) (lease : Option PrimaryLease) → Calls h s asked (goes_on next sent lease)
  goes_on_calls next sent None = refl
  goes_on_calls next sent (Some l) = refl

  supplies_calls : (e : Refusal) (server : ℕ) (lease : Option PrimaryLease) → Calls h s asked (supplies_to h e server lease)
  supplies_calls e server None = refl
  supplies_calls e server (Some l) = refl

  gives_calls : (p : Place) (req : ReqId) (m : Result Given Refusal) → Calls h s asked (fetching.gives h p req m)
  gives_calls p req (Ok found) = refl
  gives_calls p req (Err e) = marks (damaged_block e)

  from_calls : (from : NodeId) (part : ℕ → Part) → ((server : ℕ) → Calls h s asked (part server)) → Calls h s asked (from_server from part)
  from_calls (nodes.Server server) part each = each server
  from_calls nodes.Master part each = refl
  from_calls (nodes.Client client) part each = refl

  kept_calls : (req : ReqId) (kept : Option KeptRefusal) (part : Part) → Calls h s asked part → Calls h s asked (unless_kept h req kept part)
  kept_calls req None part calls = calls
  kept_calls req (Some kept) part calls =
      either_calls (nat_lt req.number kept.number) (refused_once h req refusals.Old) (cond (req.number == kept.number) (refused_once h req kept.refusal) part) refl
      (either_calls (req.number == kept.number) (refused_once h req kept.refusal) part refl calls)

  done_calls : (p : Place) (req : ReqId) (last : Option Done) (part : Part) → Calls h s asked part → Calls h s asked (unless_done h p req last part)
  done_calls p req None part calls = calls
  done_calls p req (Some last) part calls =
      either_calls (req.number == last.number) (repeated h p req last.outcome) (cond (nat_lt req.number last.number) (refused_once h req refusals.Old) part)
      (either_calls (is_known_of_all req p.slot p.lease) (sending (edits.done h req (Ok last.outcome) ∷ [])) (sending []) refl refl)
      (either_calls (nat_lt req.number last.number) (refused_once h req refusals.Old) part refl calls)

-- what the call itself answers
module _ (h : Here) (p : Place) (c : Call) where
  promises_call : (stamp : Stamp) (m : Result Slot Refusal) → called h.block h.chunk c p.slot ≡ m → Calls h p.slot (Some c) (messages.promises h p stamp m)
  promises_call stamp (Ok s) is = is
  promises_call stamp (Err e) is = unpromised_calls h p.slot (Some c) p stamp e

  drops_call : (m : Result Slot Refusal) → called h.block h.chunk c p.slot ≡ m → Calls h p.slot (Some c) (messages.drops m)
  drops_call (Ok s) is = is
  drops_call (Err e) is = refl

  takes_call : (given : Grant) (m : Result Slot Refusal) → called h.block h.chunk c p.slot ≡ m → Calls h p.slot (Some c) (takes given m)
  takes_call given (Ok s) is = is
  takes_call given (Err e) is = refl

  taken_call : (from : NodeId) (stamp : Stamp) (number : ℕ) (op : Op) (m : Result Slot Refusal) → called h.block h.chunk c p.slot ≡ m → Calls h p.slot (Some c) (edits.takes_if h p from stamp number op m)
  taken_call from stamp number op (Ok s) is = is
  taken_call from stamp number op (Err e) is = marks h p.slot (Some c) (damaged_block e)

  numbers_call : (l : PrimaryLease) (count : ℕ) (edit : Open) (m : Result Slot Refusal) → called h.block h.chunk c p.slot ≡ m → Calls h p.slot (Some c) (edits.numbers_if h p l count edit m)
  numbers_call l count edit (Err e) is = marks h p.slot (Some c) (damaged_block e)
  numbers_call l count edit (Ok s) is = either_calls h p.slot (Some c) (count == edits.last_count) (refused_edit h p edit.req refusals.Exhausted) (edits.numbers h s l (count + 1) edit) refl is

numbered_calls : (h : Here) (p : Place) (req : ReqId) (stamp : Stamp) (op : Op) (live : Option Live) (lease : Option PrimaryLease) → unless_holding stamp p.slot lease ≡ None
    → Calls h p.slot (numbered_call h req stamp op live) (numbers_or_passes h p req op (bytes_or_none (bytes_of op None h.pushed)) live lease)
numbered_calls h p req stamp op None lease holding = refl
numbered_calls h p req stamp op (Some live) None holding = refl
numbered_calls h p req stamp op (Some live) (Some l) holding =
    let count : ℕ = live.replica.held.count in
    let edit : Open = numbered_edit h req op (bytes_or_none (bytes_of op None h.pushed)) live in
    let same : stamp ≡ l.grant.stamp = same_stamp stamp l.grant.stamp (first_same (is_same stamp l.grant.stamp) (is_same l.grant.stamp p.slot.promise) (not_met _ (refusals.Stamp p.slot.promise) holding)) in
    let c : Stamp → Call = λ given. Applies given (count + 1) req (in_replica edit.op) edit.bytes in
    subst (λ given. Calls h p.slot (Some (c given)) (numbers_or_passes h p req op (bytes_or_none (bytes_of op None h.pushed)) (Some live) (Some l))) (sym same)
    (either_calls h p.slot (Some (c l.grant.stamp)) (is_passed h.chunk (length live.replica.held.chunk.bytes) op) (sending (edits.done h req (Ok Padded) ∷ [])) (edits.numbers_as h p live l edit) refl
    (numbers_call h p (c l.grant.stamp) l count edit (apply l.grant.stamp (count + 1) req (in_replica edit.op) edit.bytes p.slot) refl))

forwarded_calls : (h : Here) (p : Place) (from : NodeId) (stamp : Stamp) (number : ℕ) (req : ReqId) (op : Op) (bytes : Option (List ℕ)) (live : Option Live)
    → Calls h p.slot (Some (Applies stamp number req (in_replica op) (bytes_or_none bytes))) (edits.takes h p from stamp number req op bytes live)
forwarded_calls h p from stamp number req op bytes None = refl
forwarded_calls h p from stamp number req op bytes (Some live) =
    let c : Call = Applies stamp number req (in_replica op) (bytes_or_none bytes) in
    let m : Result Slot Refusal = apply stamp number req (in_replica op) (bytes_or_none bytes) p.slot in
    either_calls h p.slot (Some c) (nat_le number live.replica.held.count) (edits.acknowledges h from stamp live.replica.held.count) (edits.takes_next h p from stamp number req op bytes live.replica.held.count) refl
    (or_calls h p.slot (Some c) (edits.unless_next live.replica.held.count number bytes) (declines h p from stamp) (edits.takes_if h p from stamp number op m) (λ e. marks h p.slot (Some c) (damaged_block e))
    (λ _. taken_call h p c from stamp number op m refl))

pub chunk_calls : (h : Here) (p : Place) (from : NodeId) (chunk : Chunk) → Calls h p.slot (asked_call h p chunk) (about_chunk h p from chunk)
chunk_calls h p from (chunks.Create stamp) =
    or_calls h p.slot (Some (Creates stamp)) (other_epoch h stamp.epoch) (messages.unpromised h p stamp) (messages.promises h p stamp (slots.create h.block h.chunk stamp p.slot)) (unpromised_calls h p.slot (Some (Creates stamp)) p stamp)
    (λ _. promises_call h p (Creates stamp) stamp (slots.create h.block h.chunk stamp p.slot) refl)
chunk_calls h p from (chunks.Advance stamp) =
    or_calls h p.slot (Some (Advances stamp)) (other_epoch h stamp.epoch) (messages.unpromised h p stamp) (messages.promises h p stamp (slots.advance stamp p.slot)) (unpromised_calls h p.slot (Some (Advances stamp)) p stamp)
    (λ _. promises_call h p (Advances stamp) stamp (slots.advance stamp p.slot) refl)
chunk_calls h p from (chunks.Grant given) =
    let c : Call = TakesLease given.stamp in
    or_calls h p.slot (Some c) (first_of (other_epoch h given.stamp.epoch ∷ check_grant given.stamp p.slot ∷ [])) unanswered (cond (is_held given.stamp p.lease) (sending []) (takes given (take_lease given.stamp p.slot))) (λ e. refl)
    (λ _. either_calls h p.slot (Some c) (is_held given.stamp p.lease) (sending []) (takes given (take_lease given.stamp p.slot)) refl (takes_call h p c given (take_lease given.stamp p.slot) refl))
chunk_calls h p from (chunks.Renewed stamp end) =
    or_calls h p.slot None (unless_leased stamp p.slot p.lease) unanswered (goes_on (renews end) (λ l. []) p.lease) (λ e. refl) (λ _. goes_on_calls h p.slot None (renews end) (λ l. []) p.lease)
chunk_calls h p from (chunks.Edit req stamp op) =
    let c : Option Call = numbered_call h req stamp op p.slot.live in
    let holding : Option Refusal = unless_holding stamp p.slot p.lease in
    let rest : List (Option Refusal) = unless_over h.moment p.lease ∷ unless_there (bytes_of op None h.pushed) ∷ when (is_too_long h.chunk op) refusals.TooLong ∷ [] in
    done_calls h p.slot c p req (done_in p.slot.live req.client.0) (unless_kept h req h.refused (edits.new_edit h p req stamp op))
    (kept_calls h p.slot c req h.refused (edits.new_edit h p req stamp op)
    (or_calls h p.slot c (unless_numbered h p stamp op) (refused_edit h p req) (numbers_or_passes h p req op (bytes_or_none (bytes_of op None h.pushed)) p.slot.live p.lease) (λ e. marks h p.slot c (damaged_block e))
    (λ none. numbered_calls h p req stamp op p.slot.live p.lease (head_none holding rest (tail_none (unless_live p.slot.live) (holding ∷ rest) none)))))
chunk_calls h p from (chunks.Forward stamp number req op carried) =
    let c : Option Call = Some (Applies stamp number req (in_replica op) (bytes_or_none (bytes_of op carried h.pushed))) in
    or_calls h p.slot c (first_of (unless_live p.slot.live ∷ unless_promised stamp p.slot ∷ [])) (declines h p from stamp) (edits.takes h p from stamp number req op (bytes_of op carried h.pushed) p.slot.live) (λ e. marks h p.slot c (damaged_block e))
    (λ _. forwarded_calls h p from stamp number req op (bytes_of op carried h.pushed) p.slot.live)
chunk_calls h p from (chunks.Ack stamp count) = from_calls h p.slot None from (λ server. holding.ack h p server stamp count) (λ server.
    or_calls h p.slot None (unless_leased stamp p.slot p.lease) unanswered (goes_on (λ l. settled (hears server count l)) (λ l. dones h.me (hears server count l)) p.lease) (λ e. refl)
    (λ _. goes_on_calls h p.slot None (λ l. settled (hears server count l)) (λ l. dones h.me (hears server count l)) p.lease))
chunk_calls h p from (chunks.Nack stamp refusal) = from_calls h p.slot None from (λ server. holding.nack h p server stamp refusal) (λ server.
    or_calls h p.slot None (unless_leased stamp p.slot p.lease) unanswered (supplies_to h refusal server p.lease) (λ e. refl) (λ _. supplies_calls h p.slot None refusal server p.lease))
chunk_calls h p from (chunks.Fetch req stamp epoch asked) =
    or_calls h p.slot None (other_epoch h epoch) (fetching.refuses h p req) (fetching.gives h p req (fetching.given stamp asked p.slot)) (λ e. marks h p.slot None (damaged_block e)) (λ _. gives_calls h p.slot None p req (fetching.given stamp asked p.slot))
chunk_calls h p from (chunks.CopyOut stamp target with_sealed) =
    or_calls h p.slot None (other_epoch h stamp.epoch) (messages.unpromised h p stamp) (messages.sends_copy h p stamp target (moves.copy_out stamp with_sealed p.slot)) (unpromised_calls h p.slot None p stamp)
    (λ _. sends_calls h p.slot None p stamp target (moves.copy_out stamp with_sealed p.slot))
chunk_calls h p from (chunks.CopyIn stamp image sealed) =
    let c : Call = CopiesIn stamp image sealed in
    or_calls h p.slot (Some c) (other_epoch h stamp.epoch) (messages.unpromised h p stamp) (messages.promises h p stamp (moves.copy_in h.block h.chunk stamp image sealed p.slot)) (unpromised_calls h p.slot (Some c) p stamp)
    (λ _. promises_call h p c stamp (moves.copy_in h.block h.chunk stamp image sealed p.slot) refl)
chunk_calls h p from (chunks.Drop epoch promise) =
    or_calls h p.slot (Some (Drops promise)) (other_epoch h epoch) unanswered (messages.drops (slots.drop_replica promise p.slot)) (λ e. refl) (λ _. drops_call h p (Drops promise) (slots.drop_replica promise p.slot) refl)
chunk_calls h p from (chunks.Promised stamp count carried) = refl
chunk_calls h p from (chunks.Unpromised stamp refusal) = refl
chunk_calls h p from (chunks.Renew stamp) = refl
chunk_calls h p from (chunks.Bad stamp) = refl

-- ---- other chunks' slots

other_set : (handle other : ℕ) (t : Store) (marked : Option Slot) → (other == handle) ≡ false → slot_of other (set_slot handle t marked) ≡ slot_of other t
other_set handle other t None apart = refl
other_set handle other t (Some slot) apart = other_slot handle other slot t apart

pub other_changed : (handle other : ℕ) (change : SlotChange) (t : Store) → (other == handle) ≡ false → slot_of other (change_slot handle change t) ≡ slot_of other t
other_changed handle other SlotStays t apart = refl
other_changed handle other (SlotBecomes slot) t apart = other_slot handle other slot t apart
other_changed handle other (SlotMarked block) t apart = other_set handle other t (option_map (slots.mark_bad block) (fin.get t.slots handle)) apart

used_slots : (asked : Option ReqId) (used : Bool) (t : Store) (other : ℕ) → slot_of other (change_buffer asked used t) ≡ slot_of other t
used_slots None used t other = refl
used_slots (Some req) true t other = refl
used_slots (Some req) false t other = refl

pub other_part : (handle other : ℕ) (req : Option ReqId) (part : Part) (s : Server) → (other == handle) ≡ false → slot_in other (changed_by handle req part s) ≡ slot_in other s
other_part handle other req part s apart = used_slots req part.used (change_slot handle part.slot (store_of s)) other ∙ other_changed handle other part.slot (store_of s) apart

pub own_part : (handle : ℕ) (req : Option ReqId) (part : Part) (s : Server) → slot_in handle (changed_by handle req part s) ≡ slot_after (slot_in handle s) part.slot
own_part handle req part s = ap (λ (p : Place). p.slot) (own_place handle req part s)

-- ---- messages

abbrev Heard : ℕ → Server → NodeId → Body → Moment → Type 0
Heard q s from body moment = BecomesBy s.block s.chunk (slot_in q s) (heard_call q s from body moment) (slot_in q (handle_body s from body moment).after)

abbrev HeardAs : ℕ → ℕ → Server → Option ReqId → Option Call → Part → Type 0
HeardAs q handle s req c part = BecomesBy s.block s.chunk (slot_in q s) c (slot_in q (changed_by handle req part s))

own_heard : (q handle : ℕ) (s : Server) (from : NodeId) (chunk : Chunk) (moment : Moment) → q ≡ handle
    → HeardAs q handle s (request_in chunk) (call_at (here_of s moment handle (request_in chunk)) (place_of handle s) from chunk) (about_chunk (here_of s moment handle (request_in chunk)) (place_of handle s) from chunk)
own_heard q handle s from chunk moment is =
    let h : Here = here_of s moment handle (request_in chunk) in
    let part : Part = about_chunk h (place_of handle s) from chunk in
    subst (λ k. HeardAs k handle s (request_in chunk) (call_at h (place_of handle s) from chunk) part) (sym is)
    (subst (BecomesBy s.block s.chunk (slot_in handle s) (call_at h (place_of handle s) from chunk)) (sym (own_part handle (request_in chunk) part s)) (chunk_calls h (place_of handle s) from chunk))

about_heard : (q : ℕ) (s : Server) (from : NodeId) (handle : ℕ) (chunk : Chunk) (moment : Moment) → Heard q s from (bodies.About handle chunk) moment
about_heard q s from handle chunk moment = by_case (q == handle) refl
  where
    by_case : (b : Bool) → (q == handle) ≡ b → HeardAs q handle s (request_in chunk) (cond b (call_at (here_of s moment handle (request_in chunk)) (place_of handle s) from chunk) None) (about_chunk (here_of s moment handle (request_in chunk)) (place_of handle s) from chunk)
    by_case true is = own_heard q handle s from chunk moment (eqb-true q handle is)
    by_case false apart = other_part handle q (request_in chunk) (about_chunk (here_of s moment handle (request_in chunk)) (place_of handle s) from chunk) s apart

own_changed : (handle : ℕ) (change : SlotChange) (s : Server) → slot_of handle (change_slot handle change (store_of s)) ≡ slot_after (slot_in handle s) change
own_changed handle change s = own_part handle None (changing change LeaseStays []) s

-- a copy under a new handle
abbrev Copied : ℕ → ℕ → ℕ → Server → Copying → Option Call → Type 0
Copied q handle new_handle s copying taken = BecomesBy s.block s.chunk (slot_in q s) (copying_call q handle new_handle copying taken) (slot_in q (copies handle new_handle copying s).after)

abbrev Marked : ℕ → ℕ → Server → Option ℕ → Option Call → Type 0
Marked q handle s o c = BecomesBy s.block s.chunk (slot_in q s) c (slot_of q (change_slot handle (marked_by o) (store_of s)))

source_marked : (q handle : ℕ) (s : Server) (o : Option ℕ) (b : Bool) → (q == handle) ≡ b → Marked q handle s o (cond b (made_by (marked_by o) None) None)
source_marked q handle s o true is = subst (λ k. Marked k handle s o (made_by (marked_by o) None)) (sym (eqb-true q handle is)) (own o)
  where
    own : (m : Option ℕ) → Marked handle handle s m (made_by (marked_by m) None)
    own None = refl
    own (Some block) = ap (λ (t : Slot). (let m : Result Slot Refusal = Ok t in m)) (sym (own_changed handle (SlotMarked block) s))
source_marked q handle s o false apart = other_changed handle q (marked_by o) (store_of s) apart

not_copied_calls : (q handle new_handle : ℕ) (s : Server) (h new : Here) (stamp : Stamp) (e : Refusal) (taken : Option Call) → Copied q handle new_handle s (messages.not_copied h (place_of handle s) new stamp e) taken
not_copied_calls q handle new_handle s h new stamp e taken = by_case (q == new_handle)
  where
    by_case : (b : Bool) → Marked q handle s (damaged_block e) (first_call (cond b None None) (cond (q == handle) (made_by (marked_by (damaged_block e)) None) None))
    by_case true = source_marked q handle s (damaged_block e) (q == handle) refl
    by_case false = source_marked q handle s (damaged_block e) (q == handle) refl

taken_copy : (q handle new_handle : ℕ) (s : Server) (held : Held) (t : Slot) (part : Part) → part.slot ≡ SlotBecomes t → moves.take_copy held (slot_in new_handle s) ≡ Ok t → (b : Bool) → (q == new_handle) ≡ b
    → HeardAs q new_handle s None (first_call (cond b (Some (TakesCopy held)) None) (cond (q == handle) None None)) part
taken_copy q handle new_handle s held t part becomes is true same =
    subst (λ k. moves.take_copy held (slot_in k s) ≡ Ok (slot_in k (changed_by new_handle None part s))) (sym (eqb-true q new_handle same))
    (is ∙ ap (λ (x : SlotChange). (let r : Result Slot Refusal = Ok (slot_after (slot_in new_handle s) x) in r)) (sym becomes) ∙ ap (λ (x : Slot). (let r : Result Slot Refusal = Ok x in r)) (sym (own_part new_handle None part s)))
taken_copy q handle new_handle s held t part becomes is false apart = still (q == handle)
  where
    still : (b : Bool) → HeardAs q new_handle s None (cond b None None) part
    still true = other_part new_handle q None part s apart
    still false = other_part new_handle q None part s apart

copied_calls : (q handle new_handle : ℕ) (s : Server) (h new : Here) (stamp : Stamp) (held : Held) (m : Result Slot Refusal) → moves.take_copy held (slot_in new_handle s) ≡ m
    → Copied q handle new_handle s (messages.copies h (place_of handle s) new (place_of new_handle s) stamp m) (Some (TakesCopy held))
copied_calls q handle new_handle s h new stamp held (Err e) is = not_copied_calls q handle new_handle s h new stamp e (Some (TakesCopy held))
copied_calls q handle new_handle s h new stamp held (Ok t) is = taken_copy q handle new_handle s held t (promising t (place_of new_handle s) (messages.promised new stamp t ∷ [])) refl is (q == new_handle) refl

copying_calls : (q handle new_handle : ℕ) (s : Server) (h new : Here) (stamp : Stamp) (o : Option Refusal) (c : Result Held Refusal)
    → Copied q handle new_handle s (messages.or_copy o (messages.not_copied h (place_of handle s) new stamp) (messages.copies h (place_of handle s) new (place_of new_handle s) stamp (and_then c (λ held. moves.take_copy held (slot_in new_handle s))))) (copy_taken c)
copying_calls q handle new_handle s h new stamp (Some e) c = not_copied_calls q handle new_handle s h new stamp e (copy_taken c)
copying_calls q handle new_handle s h new stamp None (Err e) = not_copied_calls q handle new_handle s h new stamp e None
copying_calls q handle new_handle s h new stamp None (Ok held) = copied_calls q handle new_handle s h new stamp held (moves.take_copy held (slot_in new_handle s)) refl

-- the end of an epoch
ended : (epoch : ℕ) (end : EpochEnd) (block chunk : ℕ) (s t : Slot) → t ≡ stores.gone_on end epoch s → called block chunk (end_call epoch end) s ≡ Ok t
ended epoch Prepare block chunk s t is = ap (λ (x : Slot). (let r : Result Slot Refusal = Ok x in r)) (sym is)
ended epoch Finalize block chunk s t is = ap (λ (x : Slot). (let r : Result Slot Refusal = Ok x in r)) (sym is)
ended epoch Rollback block chunk s t is = ap (λ (x : Slot). (let r : Result Slot Refusal = Ok x in r)) (sym is)

learn_calls : (q epoch : ℕ) (end : EpochEnd) (s : Server) (here next : Bool) → BecomesBy s.block s.chunk (slot_in q s) (cond here None (cond next (Some (end_call epoch end)) None)) (slot_in q (step_if epoch end s here next).after)
learn_calls q epoch end s true next = refl
learn_calls q epoch end s false true = ended epoch end s.block s.chunk (slot_in q s) (slot_in q (next_of epoch end s)) (slot_goes epoch end (store_of s) q)
learn_calls q epoch end s false false = refl

body_calls : (q : ℕ) (s : Server) (from : NodeId) (body : Body) (moment : Moment) → Heard q s from body moment
body_calls q s from (bodies.About handle chunk) moment = about_heard q s from handle chunk moment
body_calls q s from (bodies.Push req bytes) moment = refl
body_calls q s from (bodies.MakeCopy handle at new_handle stamp) moment =
    copying_calls q handle new_handle s (here_of s moment handle None) (here_of s moment new_handle None) stamp (other_epoch (here_of s moment handle None) stamp.epoch) (moves.copied_from at stamp (slot_in handle s))
body_calls q s from (bodies.Epoch epoch end) moment = learn_calls q epoch end s (epoch == s.kept.epoch) (epoch == s.kept.epoch + 1)
body_calls q s from (bodies.Call req call) moment = refl
body_calls q s from (bodies.Reply req result) moment = refl
body_calls q s from (bodies.Done req result) moment = refl
body_calls q s from (bodies.Bytes req result) moment = refl
body_calls q s from (bodies.Report epoch replicas) moment = refl
body_calls q s from (bodies.Learned epoch handles) moment = refl
body_calls q s from (bodies.Behind epoch) moment = refl

-- ---- other events

put_calls : (q handle : ℕ) (s : Server) (c : Call) (m : Result Slot Refusal) (b : Bool) → called s.block s.chunk c (slot_in handle s) ≡ m → (q == handle) ≡ b
    → BecomesBy s.block s.chunk (slot_in q s) (cond b (if_done c m) None) (slot_in q (unless_refused s (in_store s (put_slot handle (store_of s) m))))
put_calls q handle s c (Err e) true is same = refl
put_calls q handle s c (Err e) false is same = refl
put_calls q handle s c (Ok t) true is same =
    subst (λ k. called s.block s.chunk c (slot_in k s) ≡ Ok (slot_of k (with_slot handle t (store_of s)))) (sym (eqb-true q handle same))
    (is ∙ ap (λ (x : Slot). (let r : Result Slot Refusal = Ok x in r)) (sym (own_slot handle t (store_of s))))
put_calls q handle s c (Ok t) false is apart = other_slot handle q t (store_of s) apart

pub event_calls : (q : ℕ) (e : Event) (s : Server) → BecomesBy s.block s.chunk (slot_in q s) (call_by q e s) (slot_in q (behind e s))
event_calls q (Hears message moment) s = body_calls q s message.from message.body moment
event_calls q (Ticks moment) s = refl
event_calls q Restarts s = refl
event_calls q (runs.Loses handle) s = put_calls q handle s Loses (slots.lose (slot_in handle s)) (q == handle) refl refl
event_calls q (runs.Damages handle block) s = put_calls q handle s (Damages block) (slots.damage block (slot_in handle s)) (q == handle) refl refl
