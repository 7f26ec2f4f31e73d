-- What a server sends carries no image that was sealed under a stamp above that of its copy, where each slot of it is one of a store of its sizes.
use Rattle.std.proofs.Common.{◌≡◌, arith, not, refl, ℕ, Bool, true, false, cond, List, [], ◌∷◌, ◌++◌, map, Option, Some, None, Result, Ok, Err, length}
use Rattle.std.specs.Prelude.{◌==◌, ◌+◌, flat_map, nat_le, nat_lt}
use Rattle.std.specs.FinMap as fin
use Rattle.std.proofs.lemmas.Bool.Decides.{nat_tests}
use Rattle.std.specs.List.{AllByRecursion, filter, find, list_any}
use Rattle.gs_base.specs.declared.epoch.EpochEnd.{EpochEnd}
use Rattle.gs_base.specs.declared.numbers.Moment.{Moment}
use Rattle.gs_base.specs.declared.numbers.ReqId.{ReqId}
use Rattle.gs_base.specs.declared.numbers.Stamp.{Stamp}
use Rattle.gs_base.specs.declared.refusal.Refusal.{Refusal}
use Rattle.gs_base.specs.declared.refusal.Refusal.TheVariants as refusals
use Rattle.gs_lease.specs.declared.held.Grant.{Grant}
use Rattle.gs_base.specs.Stamps.{is_same}
use Rattle.gs_replica.specs.Copies.{Image, SealedImage, and_then, as_sealed, image}
use Rattle.gs_replica.specs.Seals.{Sealed, State, lowest_damaged}
use Rattle.gs_replica.specs.Seals as seals
use Rattle.gs_store.specs.Calls.{SealedBy}
use Rattle.gs_store.specs.Whole.{Reaches}
use Rattle.gs_laws_image.specs.Slots.{IsSealedBody}
use Rattle.gs_replica.specs.declared.op.Done.{Done}
use Rattle.gs_replica.specs.declared.op.EditOutcome.TheVariants.{Padded}
use Rattle.gs_msg.specs.Ops.{in_replica}
use Rattle.gs_msg.specs.declared.body.Body.{Body}
use Rattle.gs_msg.specs.declared.body.Body.TheVariants as bodies
use Rattle.gs_msg.specs.declared.body.Given.{Given}
use Rattle.gs_msg.specs.declared.chunk.Chunk.{Chunk}
use Rattle.gs_msg.specs.declared.chunk.Chunk.TheVariants as chunks
use Rattle.gs_msg.specs.declared.message.Message.{Message}
use Rattle.gs_msg.specs.declared.node.NodeId.{NodeId}
use Rattle.gs_msg.specs.declared.node.NodeId.TheVariants as nodes
use Rattle.gs_msg.specs.declared.op.Op.{Op}
use Rattle.gs_store.specs.Moves as moves
use Rattle.gs_store.specs.Serving.{apply, done_in}
use Rattle.gs_store.specs.Slots.{Live, Slot, check_grant, first_of, take_lease, unless_live, unless_promised}
use Rattle.gs_store.specs.Slots as slots
use Rattle.gs_store.specs.Stores as stores
use Rattle.gs_server_lease.specs.declared.lease.Open.{Open}
use Rattle.gs_server.specs.declared.turn.KeptRefusal.{KeptRefusal}
use Rattle.gs_server.specs.Edits.{acknowledges, bytes_of, bytes_or_none, declines, edit, is_known_of_all, new_edit, numbers, numbers_as, numbers_if, numbers_or_passes, opened, refused_edit, refused_once, repeated, takes_if, takes_next, unless_done, unless_kept, unless_next, unless_numbered}
use Rattle.gs_server.specs.Edits as edits
use Rattle.gs_server.specs.Fetches as fetching
use Rattle.gs_server.specs.Holding.{from_server, goes_on, is_held, supplies_to, takes, unless_leased, wants_bytes}
use Rattle.gs_server.specs.Holding as holding
use Rattle.gs_server_lease.specs.Leases.{PrimaryLease, done_at_once, done_of, dones, forward_of, forwards, forwards_again, hears, is_acknowledged, is_over, lacks, reminds, reminds_of, renews, settled, supplies, tell, with_bytes}
use Rattle.gs_server_lease.specs.Numbering.{numbered_op, is_passed}
use Rattle.gs_server.specs.Places.{Here, Part, Place, damaged_block, or_else, other_epoch, sending, tells_bad, unanswered}
use Rattle.gs_server.specs.Promises as messages
use Rattle.gs_server.specs.Servers.{Server, Step, about_chunk, handle_body, here_of, learned, leases_after, place_of, request_in, store_of, with_leases, with_store}
use Rattle.gs_server.specs.Servers as servers

abbrev pub AllSealed : List Message → Type 0
AllSealed messages = AllByRecursion (λ (m : Message). IsSealedBody m.body) messages

both_sent : (xs ys : List Message) → AllSealed xs → AllSealed ys → AllSealed (xs ++ ys)
both_sent [] ys first second = second
both_sent (x ∷ xs) ys first second = (first.0, both_sent xs ys first.1 second)

either_sent : (test : Bool) (xs ys : List Message) → AllSealed xs → AllSealed ys → AllSealed (cond test xs ys)
either_sent true xs ys first second = first
either_sent false xs ys first second = second

bad_sent : (h : Here) (s : Slot) (o : Option ℕ) → AllSealed (tells_bad h s o)
bad_sent h s None = tt
bad_sent h s (Some block) = (tt, tt)

-- ---- leases

dones_sent : (me : ℕ) (xs : List (ℕ × Open)) → AllSealed (map (done_of me) xs)
dones_sent me [] = tt
dones_sent me (x ∷ xs) = (tt, dones_sent me xs)

forwards_sent : (me handle : ℕ) (l : PrimaryLease) (bytes : Option (List ℕ)) (e : ℕ × Open) (members : List ℕ) → AllSealed (map (forward_of me handle l bytes e) members)
forwards_sent me handle l bytes e [] = tt
forwards_sent me handle l bytes e (member ∷ members) = (tt, forwards_sent me handle l bytes e members)

supplied : (me handle : ℕ) (l : PrimaryLease) (server : ℕ) (o : Option (ℕ × Open)) → AllSealed (with_bytes me handle l server o)
supplied me handle l server None = tt
supplied me handle l server (Some e) = (tt, tt)

again_sent : (me handle : ℕ) (l : PrimaryLease) (edits : List (ℕ × Open)) → AllSealed (flat_map (forwards_again me handle l) edits)
again_sent me handle l [] = tt
again_sent me handle l (e ∷ edits) =
    both_sent (forwards_again me handle l e) (flat_map (forwards_again me handle l) edits) (forwards_sent me handle l None e (filter (lacks l.told e.0) l.grant.members)) (again_sent me handle l edits)

reminds_sent : (me handle : ℕ) (l : PrimaryLease) (edits : List (ℕ × Open)) → AllSealed (reminds_of me handle l edits)
reminds_sent me handle l [] = tt
reminds_sent me handle l (e ∷ edits) = (tt, again_sent me handle l (e ∷ edits))

all_sent : (me : ℕ) (moment : Moment) (entries : List (ℕ × PrimaryLease)) → AllSealed (servers.reminds_all me moment entries)
all_sent me moment [] = tt
all_sent me moment (e ∷ entries) =
    both_sent (cond (is_over moment e.1) [] (reminds me e.0 e.1)) (servers.reminds_all me moment entries) (either_sent (is_over moment e.1) [] (reminds me e.0 e.1) tt (reminds_sent me e.0 e.1 e.1.outbox)) (all_sent me moment entries)

-- ---- a copy that is sent

abbrev CarriesSealed : Stamp → Result (Image × Option SealedImage) Refusal → Type 0
CarriesSealed stamp (Ok copy) = SealedBy stamp copy.1
CarriesSealed stamp (Err e) = Unit {0}

either_carries : (stamp : Stamp) (flag : Bool) (o : Option SealedImage) → SealedBy stamp o → SealedBy stamp (cond flag o None)
either_carries stamp true o by = by
either_carries stamp false o by = tt

unless_lost_by : (stamp : Stamp) (o : Option ℕ) (i : SealedImage) → SealedBy stamp (Some i) → SealedBy stamp (moves.unless_lost o i)
unless_lost_by stamp None i by = by
unless_lost_by stamp (Some index) i by = tt

sound_by : (stamp : Stamp) (o : Option Sealed) → Reaches stamp (seals.stamp_of o) → SealedBy stamp (moves.sound_image o)
sound_by stamp None reached = tt
sound_by stamp (Some t) reached = unless_lost_by stamp (lowest_damaged t.undone) (as_sealed t) reached

-- the stamp of the copy is the promise, which reaches that of the seal
as_far : (stamp promise : Stamp) (o : Option Stamp) → is_same stamp promise ≡ true → Reaches promise o → Reaches stamp o
as_far stamp promise None same reached = tt
as_far stamp promise (Some sealed) same reached = grind (arith, nat_tests)

abbrev carried : Result State Refusal → Option SealedImage → Result (Image × Option SealedImage) Refusal
carried m sealed = and_then m (λ r. and_then (image r) (λ i. Ok (i, sealed)))

image_carries : (stamp : Stamp) (i : Result Image Refusal) (sealed : Option SealedImage) → SealedBy stamp sealed → CarriesSealed stamp (and_then i (λ x. Ok (x, sealed)))
image_carries stamp (Ok x) sealed by = by
image_carries stamp (Err e) sealed by = tt

source_carries : (stamp : Stamp) (m : Result State Refusal) (sealed : Option SealedImage) → SealedBy stamp sealed → CarriesSealed stamp (carried m sealed)
source_carries stamp (Ok r) sealed by = image_carries stamp (image r) sealed by
source_carries stamp (Err e) sealed by = tt

promise_carries : (same : Bool) (stamp : Stamp) (e : Refusal) (others : List (Option Refusal)) (m : Result State Refusal) (sealed : Option SealedImage) → (same ≡ true → SealedBy stamp sealed)
    → CarriesSealed stamp (carried (slots.unless (first_of (slots.when (not same) e ∷ others)) m) sealed)
promise_carries true stamp e others m sealed by = source_carries stamp (slots.unless (first_of others) m) sealed (by refl)
promise_carries false stamp e others m sealed by = tt

copy_carries : (stamp : Stamp) (flag : Bool) (s : Slot) → Reaches s.promise (seals.stamp_of (slots.sealed_of s)) → CarriesSealed stamp (moves.copy_out stamp flag s)
copy_carries stamp flag s reached =
    promise_carries (is_same stamp s.promise) stamp (refusals.Stamp s.promise) (unless_live s.live ∷ slots.if_bad s.live ∷ []) (moves.live_in s.live) (cond flag (moves.sound_image (slots.sealed_of s)) None)
    (λ same. either_carries stamp flag (moves.sound_image (slots.sealed_of s)) (sound_by stamp (slots.sealed_of s) (as_far stamp s.promise (seals.stamp_of (slots.sealed_of s)) same reached)))

-- of every chunk of a server the promise reaches the stamp of the seal
abbrev pub SealsReached : Server → Type 0
SealsReached s = (handle : ℕ) → Reaches (place_of handle s).slot.promise (seals.stamp_of (slots.sealed_of (place_of handle s).slot))

-- ---- what a message about a chunk comes to

abbrev Says : Part → Type 0
Says part = AllSealed part.sent

or_says : (o : Option Refusal) (refuses : Refusal → Part) (part : Part) → ((e : Refusal) → Says (refuses e)) → Says part → Says (or_else o refuses part)
or_says None refuses part each says = says
or_says (Some e) refuses part each says = each e

either_says : (test : Bool) (x y : Part) → Says x → Says y → Says (cond test x y)
either_says true x y first second = first
either_says false x y first second = second

module _ (h : Here) (p : Place) where
  unpromised_says : (stamp : Stamp) (e : Refusal) → Says (messages.unpromised h p stamp e)
  unpromised_says stamp e = (tt, bad_sent h p.slot (damaged_block e))

  promises_says : (stamp : Stamp) (m : Result Slot Refusal) → Says (messages.promises h p stamp m)
  promises_says stamp (Ok s) = (tt, tt)
  promises_says stamp (Err e) = unpromised_says stamp e

  sends_says : (stamp : Stamp) (target : ℕ) (m : Result (Image × Option SealedImage) Refusal) → CarriesSealed stamp m → Says (messages.sends_copy h p stamp target m)
  sends_says stamp target (Ok copy) carries = (carries, tt)
  sends_says stamp target (Err e) carries = unpromised_says stamp e

  drops_says : (m : Result Slot Refusal) → Says (messages.drops m)
  drops_says (Ok s) = tt
  drops_says (Err e) = tt

  takes_says : (given : Grant) (m : Result Slot Refusal) → Says (takes given m)
  takes_says given (Ok s) = tt
  takes_says given (Err e) = tt

  goes_on_says : (next : PrimaryLease → PrimaryLease) (sent : PrimaryLease → List Message) (o : Option PrimaryLease) → ((l : PrimaryLease) → AllSealed (sent l)) → Says (goes_on next sent o)
  goes_on_says next sent None told = tt
  goes_on_says next sent (Some l) told = told l

  supplies_says : (e : Refusal) (server : ℕ) (o : Option PrimaryLease) → Says (supplies_to h e server o)
  supplies_says e server None = tt
  supplies_says e server (Some l) =
      let found : Option (ℕ × Open) = find (λ edit. lacks l.told edit.0 server) l.outbox in
      either_sent (wants_bytes e) (supplies h.me h.handle server l) []
      (either_sent (list_any (λ member. member == server) l.grant.members) (with_bytes h.me h.handle l server found) [] (supplied h.me h.handle l server found) tt) tt

  gives_says : (req : ReqId) (m : Result Given Refusal) → Says (fetching.gives h p req m)
  gives_says req (Ok found) = (tt, tt)
  gives_says req (Err e) = (tt, bad_sent h p.slot (damaged_block e))

  from_says : (from : NodeId) (part : ℕ → Part) → ((server : ℕ) → Says (part server)) → Says (from_server from part)
  from_says (nodes.Server server) part each = each server
  from_says nodes.Master part each = tt
  from_says (nodes.Client client) part each = tt

  -- edits
  refused_edit_says : (req : ReqId) (e : Refusal) → Says (refused_edit h p req e)
  refused_edit_says req e = (tt, bad_sent h p.slot (damaged_block e))

  kept_says : (req : ReqId) (kept : Option KeptRefusal) (part : Part) → Says part → Says (unless_kept h req kept part)
  kept_says req None part says = says
  kept_says req (Some kept) part says =
      either_says (nat_lt req.number kept.number) (refused_once h req refusals.Old) (cond (req.number == kept.number) (refused_once h req kept.refusal) part) (tt, tt)
      (either_says (req.number == kept.number) (refused_once h req kept.refusal) part (tt, tt) says)

  done_says : (req : ReqId) (last : Option Done) (part : Part) → Says part → Says (unless_done h p req last part)
  done_says req None part says = says
  done_says req (Some last) part says =
      either_says (req.number == last.number) (repeated h p req last.outcome) (cond (nat_lt req.number last.number) (refused_once h req refusals.Old) part)
      (either_says (is_known_of_all req p.slot p.lease) (sending (edits.done h req (Ok last.outcome) ∷ [])) (sending []) (tt, tt) tt)
      (either_says (nat_lt req.number last.number) (refused_once h req refusals.Old) part (tt, tt) says)

  numbers_says : (s : Slot) (l : PrimaryLease) (number : ℕ) (e : Open) → Says (numbers h s l number e)
  numbers_says s l number e =
      both_sent (forwards h.me h.handle l (number, e)) (done_at_once h.me number e l)
      (forwards_sent h.me h.handle l None (number, e) (filter _ l.grant.members))
      (either_sent (is_acknowledged (hears h.me number l) number) (done_of h.me (number, e) ∷ []) [] (tt, tt) tt)

  numbers_if_says : (l : PrimaryLease) (count : ℕ) (e : Open) (m : Result Slot Refusal) → Says (numbers_if h p l count e m)
  numbers_if_says l count e (Err refusal) = refused_edit_says e.req refusal
  numbers_if_says l count e (Ok s) =
      either_says (count == edits.last_count) (refused_edit h p e.req refusals.Exhausted) (numbers h s l (count + 1) e) (refused_edit_says e.req refusals.Exhausted) (numbers_says s l (count + 1) e)

  numbered_says : (req : ReqId) (op : Op) (bytes : List ℕ) (live : Option Live) (held : Option PrimaryLease) → Says (numbers_or_passes h p req op bytes live held)
  numbered_says req op bytes None held = refused_edit_says req refusals.NoReplica
  numbered_says req op bytes (Some live) None = refused_edit_says req refusals.NotPrimary
  numbered_says req op bytes (Some live) (Some l) =
      let e : Open = opened req (numbered_op h.chunk (length live.replica.held.chunk.bytes) op) bytes live in
      let count : ℕ = live.replica.held.count in
      either_says (is_passed h.chunk (length live.replica.held.chunk.bytes) op) (sending (edits.done h req (Ok Padded) ∷ [])) (numbers_as h p live l e) (tt, tt)
      (numbers_if_says l count e (apply l.grant.stamp (count + 1) req (in_replica e.op) e.bytes p.slot))

  declines_says : (from : NodeId) (stamp : Stamp) (e : Refusal) → Says (declines h p from stamp e)
  declines_says from stamp e = (tt, bad_sent h p.slot (damaged_block e))

  taken_says : (from : NodeId) (stamp : Stamp) (number : ℕ) (op : Op) (m : Result Slot Refusal) → Says (takes_if h p from stamp number op m)
  taken_says from stamp number op (Ok s) = (tt, tt)
  taken_says from stamp number op (Err e) = declines_says from stamp e

  forwarded_says : (from : NodeId) (stamp : Stamp) (number : ℕ) (req : ReqId) (op : Op) (bytes : Option (List ℕ)) (live : Option Live) → Says (edits.takes h p from stamp number req op bytes live)
  forwarded_says from stamp number req op bytes None = declines_says from stamp refusals.NoReplica
  forwarded_says from stamp number req op bytes (Some live) =
      let count : ℕ = live.replica.held.count in
      either_says (nat_le number count) (acknowledges h from stamp count) (takes_next h p from stamp number req op bytes count) (tt, tt)
      (or_says (unless_next count number bytes) (declines h p from stamp) (takes_if h p from stamp number op (apply stamp number req (in_replica op) (bytes_or_none bytes) p.slot)) (declines_says from stamp)
      (taken_says from stamp number op (apply stamp number req (in_replica op) (bytes_or_none bytes) p.slot)))

  -- any message, where the promise reaches the stamp of the seal
  chunk_says : (from : NodeId) (chunk : Chunk) → Reaches p.slot.promise (seals.stamp_of (slots.sealed_of p.slot)) → Says (about_chunk h p from chunk)
  chunk_says from (chunks.Create stamp) reached =
      or_says (other_epoch h stamp.epoch) (messages.unpromised h p stamp) (messages.promises h p stamp (slots.create h.block h.chunk stamp p.slot)) (unpromised_says stamp) (promises_says stamp (slots.create h.block h.chunk stamp p.slot))
  chunk_says from (chunks.Advance stamp) reached =
      or_says (other_epoch h stamp.epoch) (messages.unpromised h p stamp) (messages.promises h p stamp (slots.advance stamp p.slot)) (unpromised_says stamp) (promises_says stamp (slots.advance stamp p.slot))
  chunk_says from (chunks.Grant given) reached =
      or_says (first_of (other_epoch h given.stamp.epoch ∷ check_grant given.stamp p.slot ∷ [])) unanswered (cond (is_held given.stamp p.lease) (sending []) (takes given (take_lease given.stamp p.slot))) (λ e. tt)
      (either_says (is_held given.stamp p.lease) (sending []) (takes given (take_lease given.stamp p.slot)) tt (takes_says given (take_lease given.stamp p.slot)))
  chunk_says from (chunks.Renewed stamp end) reached = or_says (unless_leased stamp p.slot p.lease) unanswered (goes_on (renews end) (λ l. []) p.lease) (λ e. tt) (goes_on_says (renews end) (λ l. []) p.lease (λ l. tt))
  chunk_says from (chunks.Edit req stamp op) reached =
      let bytes : List ℕ = bytes_or_none (bytes_of op None h.pushed) in
      done_says req (done_in p.slot.live req.client.0) (unless_kept h req h.refused (new_edit h p req stamp op))
      (kept_says req h.refused (new_edit h p req stamp op)
      (or_says (unless_numbered h p stamp op) (refused_edit h p req) (numbers_or_passes h p req op bytes p.slot.live p.lease) (refused_edit_says req) (numbered_says req op bytes p.slot.live p.lease)))
  chunk_says from (chunks.Forward stamp number req op carried) reached =
      or_says (first_of (unless_live p.slot.live ∷ unless_promised stamp p.slot ∷ [])) (declines h p from stamp) (edits.takes h p from stamp number req op (bytes_of op carried h.pushed) p.slot.live) (declines_says from stamp)
      (forwarded_says from stamp number req op (bytes_of op carried h.pushed) p.slot.live)
  chunk_says from (chunks.Ack stamp count) reached = from_says from (λ server. holding.ack h p server stamp count) (λ server.
      or_says (unless_leased stamp p.slot p.lease) unanswered (goes_on (λ l. settled (hears server count l)) (λ l. dones h.me (hears server count l)) p.lease) (λ e. tt)
      (goes_on_says (λ l. settled (hears server count l)) (λ l. dones h.me (hears server count l)) p.lease (λ l. dones_sent h.me (filter _ l.outbox))))
  chunk_says from (chunks.Nack stamp refusal) reached = from_says from (λ server. holding.nack h p server stamp refusal) (λ server.
      or_says (unless_leased stamp p.slot p.lease) unanswered (supplies_to h refusal server p.lease) (λ e. tt) (supplies_says refusal server p.lease))
  chunk_says from (chunks.Fetch req stamp epoch asked) reached =
      or_says (other_epoch h epoch) (fetching.refuses h p req) (fetching.gives h p req (fetching.given stamp asked p.slot)) (λ e. (tt, bad_sent h p.slot (damaged_block e))) (gives_says req (fetching.given stamp asked p.slot))
  chunk_says from (chunks.CopyOut stamp target with_sealed) reached =
      or_says (other_epoch h stamp.epoch) (messages.unpromised h p stamp) (messages.sends_copy h p stamp target (moves.copy_out stamp with_sealed p.slot)) (unpromised_says stamp) (sends_says stamp target (moves.copy_out stamp with_sealed p.slot) (copy_carries stamp with_sealed p.slot reached))
  chunk_says from (chunks.CopyIn stamp image sealed) reached =
      or_says (other_epoch h stamp.epoch) (messages.unpromised h p stamp) (messages.promises h p stamp (moves.copy_in h.block h.chunk stamp image sealed p.slot)) (unpromised_says stamp)
      (promises_says stamp (moves.copy_in h.block h.chunk stamp image sealed p.slot))
  chunk_says from (chunks.Drop epoch promise) reached = or_says (other_epoch h epoch) unanswered (messages.drops (slots.drop_replica promise p.slot)) (λ e. tt) (drops_says (slots.drop_replica promise p.slot))
  chunk_says from (chunks.Promised stamp count carried) reached = tt
  chunk_says from (chunks.Unpromised stamp refusal) reached = tt
  chunk_says from (chunks.Renew stamp) reached = tt
  chunk_says from (chunks.Bad stamp) reached = tt

-- ---- any message, a tick, and a report

not_copied_says : (h : Here) (source : Place) (new : Here) (stamp : Stamp) (e : Refusal) → Says (messages.not_copied h source new stamp e).target
not_copied_says h source new stamp e = (tt, bad_sent h source.slot (damaged_block e))

copying_says : (h : Here) (source : Place) (new : Here) (target : Place) (stamp : Stamp) (o : Option Refusal) (m : Result Slot Refusal)
    → Says (messages.or_copy o (messages.not_copied h source new stamp) (messages.copies h source new target stamp m)).target
copying_says h source new target stamp (Some e) m = not_copied_says h source new stamp e
copying_says h source new target stamp None (Err e) = not_copied_says h source new stamp e
copying_says h source new target stamp None (Ok s) = (tt, tt)

one_of : (here next : Bool) (a b c : Step) → AllSealed a.sent → AllSealed b.sent → AllSealed c.sent → AllSealed (cond here a (cond next b c)).sent
one_of true next a b c x y z = x
one_of false true a b c x y z = y
one_of false false a b c x y z = z

learn_says : (s : Server) (epoch : ℕ) (end : EpochEnd) → AllSealed (servers.learn s epoch end).sent
learn_says s epoch end =
    one_of (epoch == s.kept.epoch) (epoch == s.kept.epoch + 1) (learned s epoch end s)
    (learned s epoch end (with_leases (leases_after end s.dropped.leases) (with_store (stores.learned epoch end (store_of s)) s)))
    (record { after = s; sent = tell s.me nodes.Master (bodies.Behind s.kept.epoch) ∷ []; said = Some (refusals.Epoch s.kept.epoch) }) (tt, tt) (tt, tt) (tt, tt)

body_says : (s : Server) (from : NodeId) (body : Body) (moment : Moment) → SealsReached s → AllSealed (handle_body s from body moment).sent
body_says s from (bodies.About handle chunk) moment reached = chunk_says (here_of s moment handle (request_in chunk)) (place_of handle s) from chunk (reached handle)
body_says s from (bodies.Push req bytes) moment reached = tt
body_says s from (bodies.MakeCopy handle at new_handle stamp) moment reached =
    let h : Here = here_of s moment handle None in
    let new : Here = here_of s moment new_handle None in
    copying_says h (place_of handle s) new (place_of new_handle s) stamp (other_epoch h stamp.epoch) (moves.make_copy at stamp (place_of handle s).slot (place_of new_handle s).slot)
body_says s from (bodies.Epoch epoch end) moment reached = learn_says s epoch end
body_says s from (bodies.Call req call) moment reached = tt
body_says s from (bodies.Reply req result) moment reached = tt
body_says s from (bodies.Done req result) moment reached = tt
body_says s from (bodies.Bytes req result) moment reached = tt
body_says s from (bodies.Report epoch replicas) moment reached = tt
body_says s from (bodies.Learned epoch handles) moment reached = tt
body_says s from (bodies.Behind epoch) moment reached = tt

pub heard_says : (s : Server) (message : Message) (moment : Moment) → SealsReached s → AllSealed (servers.handle s message moment).sent
heard_says s message moment reached = body_says s message.from message.body moment reached

pub tick_says : (s : Server) (moment : Moment) → AllSealed (servers.tick s moment).sent
tick_says s moment = all_sent s.me moment (fin.entries s.dropped.leases)
