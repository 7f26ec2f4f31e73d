-- A server tells a client that its edit is refused only where it hears that edit, and refuses it so.
use Rattle.std.proofs.Common.{◌≡◌, refl, subst, sym, ℕ, Bool, true, false, cond, List, [], ◌∷◌, ◌++◌, map, Option, Some, None, Result, Ok, Err, length}
use Rattle.std.specs.Prelude.{◌==◌, ◌+◌, flat_map, nat_le, nat_lt}
use Rattle.std.specs.FinMap as fin
use Rattle.std.specs.List.{AllByRecursion, filter, find, list_any}
use Rattle.gs_base.specs.declared.epoch.EpochEnd.{EpochEnd}
use Rattle.gs_base.specs.declared.numbers.Moment.{Moment}
use Rattle.gs_base.specs.declared.numbers.ReqId.{ReqId}
use Rattle.gs_base.specs.declared.numbers.Stamp.{Stamp}
use Rattle.gs_base.specs.declared.refusal.Refusal.{Refusal}
use Rattle.gs_base.specs.declared.refusal.Refusal.TheVariants as refusals
use Rattle.gs_lease.specs.declared.held.Grant.{Grant}
use Rattle.gs_msg.specs.Ops.{in_replica}
use Rattle.gs_msg.specs.declared.body.Body.{Body}
use Rattle.gs_msg.specs.declared.body.Body.TheVariants as bodies
use Rattle.gs_msg.specs.declared.body.Given.{Given}
use Rattle.gs_msg.specs.declared.chunk.Chunk.{Chunk}
use Rattle.gs_msg.specs.declared.chunk.Chunk.TheVariants as chunks
use Rattle.gs_msg.specs.declared.message.Message.{Message}
use Rattle.gs_msg.specs.declared.node.NodeId.{NodeId}
use Rattle.gs_msg.specs.declared.node.NodeId.TheVariants as nodes
use Rattle.gs_msg.specs.declared.op.Op.{Op}
use Rattle.gs_replica.specs.Copies.{Image, SealedImage}
use Rattle.gs_replica.specs.declared.op.Done.{Done}
use Rattle.gs_replica.specs.declared.op.EditOutcome.TheVariants.{Padded}
use Rattle.gs_server.specs.Edits.{acknowledges, bytes_of, bytes_or_none, declines, edit, is_known_of_all, new_edit, numbers, numbers_as, numbers_if, numbers_or_passes, opened, refused_edit, refused_once, repeated, takes_if, takes_next, unless_done, unless_kept, unless_next, unless_numbered}
use Rattle.gs_server.specs.Edits as edits
use Rattle.gs_server.specs.Fetches as fetching
use Rattle.gs_server.specs.Holding.{from_server, goes_on, is_held, supplies_to, takes, unless_leased, wants_bytes}
use Rattle.gs_server.specs.Holding as holding
use Rattle.gs_server.specs.Places.{Here, Part, Place, damaged_block, or_else, other_epoch, sending, tells_bad, unanswered}
use Rattle.gs_server.specs.Promises as messages
use Rattle.gs_server.specs.Promises.{Copying}
use Rattle.gs_server.specs.Servers.{Server, about_chunk, handle_body, here_of, learn, learned, leases_after, place_of, request_in, store_of, with_leases, with_store}
use Rattle.gs_server.specs.Servers as servers
use Rattle.gs_server.specs.declared.turn.KeptRefusal.{KeptRefusal}
use Rattle.gs_server_lease.specs.Leases.{PrimaryLease, done_at_once, done_of, dones, forward_of, forwards, forwards_again, hears, is_acknowledged, is_over, lacks, reminds, reminds_of, renews, settled, supplies, tell, with_bytes}
use Rattle.gs_server_lease.specs.Numbering.{is_passed, numbered_op}
use Rattle.gs_server_lease.specs.declared.lease.Open.{Open}
use Rattle.gs_laws_server.specs.refusals.Refused.{Only, QuietTicks, TellsOwn, TellsRefusals}
use Rattle.gs_store.specs.Moves as moves
use Rattle.gs_store.specs.Serving.{apply, done_in}
use Rattle.gs_store.specs.Slots.{Live, Slot, check_grant, first_of, take_lease, unless_live, unless_promised}
use Rattle.gs_store.specs.Slots as slots
use Rattle.gs_store.specs.Stores as stores

-- ---- messages of which each refusal of an edit is one that may be told

module _ (h : Here) (May : ReqId → Refusal → Type 0) where
  abbrev All : List Message → Type 0
  All messages = AllByRecursion (λ (m : Message). Only May m.body) messages

  both_sent : (xs ys : List Message) → All xs → All ys → All (xs ++ ys)
  both_sent [] ys first second = second
  both_sent (x ∷ xs) ys first second = (first.0, both_sent xs ys first.1 second)

  either_sent : (test : Bool) (xs ys : List Message) → All xs → All ys → All (cond test xs ys)
  either_sent true xs ys first second = first
  either_sent false xs ys first second = second

  bad_sent : (s : Slot) (o : Option ℕ) → All (tells_bad h s o)
  bad_sent s None = tt
  bad_sent s (Some block) = (tt, tt)

  dones_sent : (xs : List (ℕ × Open)) → All (map (done_of h.me) xs)
  dones_sent [] = tt
  dones_sent (x ∷ xs) = (tt, dones_sent xs)

  supplied : (l : PrimaryLease) (server : ℕ) (o : Option (ℕ × Open)) → All (with_bytes h.me h.handle l server o)
  supplied l server None = tt
  supplied l server (Some e) = (tt, tt)

module _ (me handle : ℕ) (May : ReqId → Refusal → Type 0) where
  abbrev AllOf : List Message → Type 0
  AllOf messages = AllByRecursion (λ (m : Message). Only May m.body) messages

  joined : (xs ys : List Message) → AllOf xs → AllOf ys → AllOf (xs ++ ys)
  joined [] ys first second = second
  joined (x ∷ xs) ys first second = (first.0, joined xs ys first.1 second)

  forwards_sent : (l : PrimaryLease) (bytes : Option (List ℕ)) (e : ℕ × Open) (members : List ℕ) → AllOf (map (forward_of me handle l bytes e) members)
  forwards_sent l bytes e [] = tt
  forwards_sent l bytes e (member ∷ members) = (tt, forwards_sent l bytes e members)

  again_sent : (l : PrimaryLease) (edits : List (ℕ × Open)) → AllOf (flat_map (forwards_again me handle l) edits)
  again_sent l [] = tt
  again_sent l (e ∷ edits) = joined (forwards_again me handle l e) (flat_map (forwards_again me handle l) edits) (forwards_sent l None e (filter (lacks l.told e.0) l.grant.members)) (again_sent l edits)

  reminds_sent : (l : PrimaryLease) (edits : List (ℕ × Open)) → AllOf (reminds_of me handle l edits)
  reminds_sent l [] = tt
  reminds_sent l (e ∷ edits) = (tt, again_sent l (e ∷ edits))

-- ---- an edit

module _ (h : Here) (p : Place) (req : ReqId) where
  -- what is told of refusals is of this edit, and that with which it is met
  abbrev Own : Part → Type 0
  Own part = AllByRecursion (λ (m : Message). Only (λ q e. (q ≡ req) × (part.said ≡ Some e)) m.body) part.sent

  refused_own : (e : Refusal) → Own (refused_edit h p req e)
  refused_own e = ((refl, refl), bad_sent h (λ q f. (q ≡ req) × ((refused_edit h p req e).said ≡ Some f)) p.slot (damaged_block e))

  once_own : (e : Refusal) → Own (refused_once h req e)
  once_own e = ((refl, refl), tt)

  numbers_own : (s : Slot) (l : PrimaryLease) (number : ℕ) (e : Open) → Own (numbers h s l number e)
  numbers_own s l number e =
      let May : ReqId → Refusal → Type 0 = λ q f. (q ≡ req) × ((numbers h s l number e).said ≡ Some f) in
      both_sent h May (forwards h.me h.handle l (number, e)) (done_at_once h.me number e l) (forwards_sent h.me h.handle May l None (number, e) (filter _ l.grant.members))
      (either_sent h May (is_acknowledged (hears h.me number l) number) (done_of h.me (number, e) ∷ []) [] (tt, tt) tt)

  by_request : (e : Open) (f : Refusal) → e.req ≡ req → Own (refused_edit h p e.req f)
  by_request e f same = subst (λ q. Own (refused_edit h p q f)) (sym same) (refused_own f)

  numbers_if_own : (l : PrimaryLease) (count : ℕ) (e : Open) → e.req ≡ req → (m : Result Slot Refusal) → Own (numbers_if h p l count e m)
  numbers_if_own l count e same (Err refusal) = by_request e refusal same
  numbers_if_own l count e same (Ok s) = by_last (count == edits.last_count)
    where
      by_last : (b : Bool) → Own (cond b (refused_edit h p e.req refusals.Exhausted) (numbers h s l (count + 1) e))
      by_last true = by_request e refusals.Exhausted same
      by_last false = numbers_own s l (count + 1) e

  passes_own : (op : Op) (bytes : List ℕ) (live : Option Live) (held : Option PrimaryLease) → Own (numbers_or_passes h p req op bytes live held)
  passes_own op bytes None held = refused_own refusals.NoReplica
  passes_own op bytes (Some live) None = refused_own refusals.NotPrimary
  passes_own op bytes (Some live) (Some l) = by_passed (is_passed h.chunk (length live.replica.held.chunk.bytes) op)
    where
      by_passed : (b : Bool) → Own (cond b (sending (edits.done h req (Ok Padded) ∷ [])) (numbers_as h p live l (opened req (numbered_op h.chunk (length live.replica.held.chunk.bytes) op) bytes live)))
      by_passed true = (tt, tt)
      by_passed false =
          let e : Open = opened req (numbered_op h.chunk (length live.replica.held.chunk.bytes) op) bytes live in
          numbers_if_own l live.replica.held.count e refl (apply l.grant.stamp (live.replica.held.count + 1) e.req (in_replica e.op) e.bytes p.slot)

  new_own : (stamp : Stamp) (op : Op) → Own (new_edit h p req stamp op)
  new_own stamp op = by_unless (unless_numbered h p stamp op)
    where
      by_unless : (o : Option Refusal) → Own (or_else o (refused_edit h p req) (numbers_or_passes h p req op (bytes_or_none (bytes_of op None h.pushed)) p.slot.live p.lease))
      by_unless (Some refusal) = refused_own refusal
      by_unless None = passes_own op (bytes_or_none (bytes_of op None h.pushed)) p.slot.live p.lease

  kept_own : (part : Part) → Own part → (o : Option KeptRefusal) → Own (unless_kept h req o part)
  kept_own part own None = own
  kept_own part own (Some k) = by_number (nat_lt req.number k.number) (req.number == k.number)
    where
      by_number : (lower same : Bool) → Own (cond lower (refused_once h req refusals.Old) (cond same (refused_once h req k.refusal) part))
      by_number true same = once_own refusals.Old
      by_number false true = once_own k.refusal
      by_number false false = own

  done_own : (part : Part) → Own part → (o : Option Done) → Own (unless_done h p req o part)
  done_own part own None = own
  done_own part own (Some last) = by_number (req.number == last.number) (nat_lt req.number last.number)
    where
      by_known : (b : Bool) → Own (cond b (sending (edits.done h req (Ok last.outcome) ∷ [])) (sending []))
      by_known true = (tt, tt)
      by_known false = tt

      by_number : (same lower : Bool) → Own (cond same (repeated h p req last.outcome) (cond lower (refused_once h req refusals.Old) part))
      by_number true lower = by_known (is_known_of_all req p.slot p.lease)
      by_number false true = once_own refusals.Old
      by_number false false = own

  edit_own : (stamp : Stamp) (op : Op) → Own (edit h p req stamp op)
  edit_own stamp op = done_own (unless_kept h req h.refused (new_edit h p req stamp op)) (kept_own (new_edit h p req stamp op) (new_own stamp op) h.refused) (done_in p.slot.live req.client.0)

-- ---- any other message about a chunk tells of none

module _ (h : Here) (May : ReqId → Refusal → Type 0) where
  abbrev Says : Part → Type 0
  Says part = AllByRecursion (λ (m : Message). Only May m.body) part.sent

  or_says : (o : Option Refusal) (refuses : Refusal → Part) (part : Part) → ((e : Refusal) → Says (refuses e)) → Says part → Says (or_else o refuses part)
  or_says None refuses part each says = says
  or_says (Some e) refuses part each says = each e

  either_says : (test : Bool) (x y : Part) → Says x → Says y → Says (cond test x y)
  either_says true x y first second = first
  either_says false x y first second = second

  module _ (p : Place) where
    unpromised_says : (stamp : Stamp) (e : Refusal) → Says (messages.unpromised h p stamp e)
    unpromised_says stamp e = (tt, bad_sent h May p.slot (damaged_block e))

    promises_says : (stamp : Stamp) (m : Result Slot Refusal) → Says (messages.promises h p stamp m)
    promises_says stamp (Ok s) = (tt, tt)
    promises_says stamp (Err e) = unpromised_says stamp e

    sends_says : (stamp : Stamp) (target : ℕ) (m : Result (Image × Option SealedImage) Refusal) → Says (messages.sends_copy h p stamp target m)
    sends_says stamp target (Ok copy) = (tt, tt)
    sends_says stamp target (Err e) = unpromised_says stamp e

    drops_says : (m : Result Slot Refusal) → Says (messages.drops m)
    drops_says (Ok s) = tt
    drops_says (Err e) = tt

    takes_says : (given : Grant) (m : Result Slot Refusal) → Says (takes given m)
    takes_says given (Ok s) = tt
    takes_says given (Err e) = tt

    goes_on_says : (next : PrimaryLease → PrimaryLease) (sent : PrimaryLease → List Message) (o : Option PrimaryLease) → ((l : PrimaryLease) → All h May (sent l)) → Says (goes_on next sent o)
    goes_on_says next sent None told = tt
    goes_on_says next sent (Some l) told = told l

    supplies_says : (e : Refusal) (server : ℕ) (o : Option PrimaryLease) → Says (supplies_to h e server o)
    supplies_says e server None = tt
    supplies_says e server (Some l) =
        let found : Option (ℕ × Open) = find (λ edit. lacks l.told edit.0 server) l.outbox in
        either_sent h May (wants_bytes e) (supplies h.me h.handle server l) []
        (either_sent h May (list_any (λ member. member == server) l.grant.members) (with_bytes h.me h.handle l server found) [] (supplied h May l server found) tt) tt

    gives_says : (req : ReqId) (m : Result Given Refusal) → Says (fetching.gives h p req m)
    gives_says req (Ok found) = (tt, tt)
    gives_says req (Err e) = (tt, bad_sent h May p.slot (damaged_block e))

    from_says : (from : NodeId) (part : ℕ → Part) → ((server : ℕ) → Says (part server)) → Says (from_server from part)
    from_says (nodes.Server server) part each = each server
    from_says nodes.Master part each = tt
    from_says (nodes.Client client) part each = tt

    declines_says : (from : NodeId) (stamp : Stamp) (e : Refusal) → Says (declines h p from stamp e)
    declines_says from stamp e = (tt, bad_sent h May p.slot (damaged_block e))

    taken_says : (from : NodeId) (stamp : Stamp) (number : ℕ) (op : Op) (m : Result Slot Refusal) → Says (takes_if h p from stamp number op m)
    taken_says from stamp number op (Ok s) = (tt, tt)
    taken_says from stamp number op (Err e) = declines_says from stamp e

    forwarded_says : (from : NodeId) (stamp : Stamp) (number : ℕ) (req : ReqId) (op : Op) (bytes : Option (List ℕ)) (live : Option Live) → Says (edits.takes h p from stamp number req op bytes live)
    forwarded_says from stamp number req op bytes None = declines_says from stamp refusals.NoReplica
    forwarded_says from stamp number req op bytes (Some live) =
        let count : ℕ = live.replica.held.count in
        either_says (nat_le number count) (acknowledges h from stamp count) (takes_next h p from stamp number req op bytes count) (tt, tt)
        (or_says (unless_next count number bytes) (declines h p from stamp) (takes_if h p from stamp number op (apply stamp number req (in_replica op) (bytes_or_none bytes) p.slot)) (declines_says from stamp)
        (taken_says from stamp number op (apply stamp number req (in_replica op) (bytes_or_none bytes) p.slot)))

-- ---- whatever is heard

module _ (s : Server) (from to : NodeId) (moment : Moment) (handle : ℕ) (req : ReqId) (stamp : Stamp) (op : Op) where
  -- what is told of this edit, and what may be told
  abbrev Before : Body → Type 0
  Before body = Only (λ q e. (q ≡ req) × ((edit (here_of s moment handle (Some req)) (place_of handle s) req stamp op).said ≡ Some e)) body

  abbrev May : ReqId → Refusal → Type 0
  May = TellsOwn s (record { from = from; to = to; body = bodies.About handle (chunks.Edit req stamp op) }) moment

  own_one : (body : Body) → Before body → Only May body
  own_one (bodies.Done q (Err e)) told = subst (λ r. May r e) (sym told.0) (record { hears = record { from = from; to = to; handle = handle; stamp = stamp; op = op; moment = moment; is = refl }; said = told.1 })
  own_one (bodies.Done q (Ok outcome)) told = tt
  own_one (bodies.About other said) told = tt
  own_one (bodies.Push q bytes) told = tt
  own_one (bodies.MakeCopy old at new under) told = tt
  own_one (bodies.Epoch epoch end) told = tt
  own_one (bodies.Call q call) told = tt
  own_one (bodies.Reply q result) told = tt
  own_one (bodies.Bytes q result) told = tt
  own_one (bodies.Report epoch replicas) told = tt
  own_one (bodies.Learned epoch handles) told = tt
  own_one (bodies.Behind epoch) told = tt

  own_all : (sent : List Message) → AllByRecursion (λ (m : Message). Before m.body) sent → AllByRecursion (λ (m : Message). Only May m.body) sent
  own_all [] all = tt
  own_all (m ∷ sent) all = (own_one m.body all.0, own_all sent all.1)

module _ (s : Server) (from to : NodeId) (moment : Moment) where
  abbrev message_with : Body → Message
  message_with body = record { from = from; to = to; body = body }

  abbrev Tells : Body → List Message → Type 0
  Tells body sent = AllByRecursion (λ (m : Message). Only (TellsOwn s (message_with body) moment) m.body) sent

  chunk_tells : (handle : ℕ) (said : Chunk) → Tells (bodies.About handle said) (about_chunk (here_of s moment handle (request_in said)) (place_of handle s) from said).sent
  chunk_tells handle (chunks.Edit req stamp op) = own_all s from to moment handle req stamp op (edit (here_of s moment handle (Some req)) (place_of handle s) req stamp op).sent (edit_own (here_of s moment handle (Some req)) (place_of handle s) req stamp op)
  chunk_tells handle (chunks.Create stamp) =
      let h = here_of s moment handle None in let p = place_of handle s in let May = TellsOwn s (message_with (bodies.About handle (chunks.Create stamp))) moment in
      or_says h May (other_epoch h stamp.epoch) (messages.unpromised h p stamp) (messages.promises h p stamp (slots.create h.block h.chunk stamp p.slot)) (unpromised_says h May p stamp) (promises_says h May p stamp (slots.create h.block h.chunk stamp p.slot))
  chunk_tells handle (chunks.Advance stamp) =
      let h = here_of s moment handle None in let p = place_of handle s in let May = TellsOwn s (message_with (bodies.About handle (chunks.Advance stamp))) moment in
      or_says h May (other_epoch h stamp.epoch) (messages.unpromised h p stamp) (messages.promises h p stamp (slots.advance stamp p.slot)) (unpromised_says h May p stamp) (promises_says h May p stamp (slots.advance stamp p.slot))
  chunk_tells handle (chunks.Grant given) =
      let h = here_of s moment handle None in let p = place_of handle s in let May = TellsOwn s (message_with (bodies.About handle (chunks.Grant given))) moment in
      or_says h May (first_of (other_epoch h given.stamp.epoch ∷ check_grant given.stamp p.slot ∷ [])) unanswered (cond (is_held given.stamp p.lease) (sending []) (takes given (take_lease given.stamp p.slot))) (λ e. tt)
      (either_says h May (is_held given.stamp p.lease) (sending []) (takes given (take_lease given.stamp p.slot)) tt (takes_says h May p given (take_lease given.stamp p.slot)))
  chunk_tells handle (chunks.Renewed stamp end) =
      let h = here_of s moment handle None in let p = place_of handle s in let May = TellsOwn s (message_with (bodies.About handle (chunks.Renewed stamp end))) moment in
      or_says h May (unless_leased stamp p.slot p.lease) unanswered (goes_on (renews end) (λ l. []) p.lease) (λ e. tt) (goes_on_says h May p (renews end) (λ l. []) p.lease (λ l. tt))
  chunk_tells handle (chunks.Forward stamp number req op carried) =
      let h = here_of s moment handle (Some req) in let p = place_of handle s in let May = TellsOwn s (message_with (bodies.About handle (chunks.Forward stamp number req op carried))) moment in
      or_says h May (first_of (unless_live p.slot.live ∷ unless_promised stamp p.slot ∷ [])) (declines h p from stamp) (edits.takes h p from stamp number req op (bytes_of op carried h.pushed) p.slot.live) (declines_says h May p from stamp)
      (forwarded_says h May p from stamp number req op (bytes_of op carried h.pushed) p.slot.live)
  chunk_tells handle (chunks.Ack stamp count) =
      let h = here_of s moment handle None in let p = place_of handle s in let May = TellsOwn s (message_with (bodies.About handle (chunks.Ack stamp count))) moment in
      from_says h May p from (λ server. holding.ack h p server stamp count) (λ server.
      or_says h May (unless_leased stamp p.slot p.lease) unanswered (goes_on (λ l. settled (hears server count l)) (λ l. dones h.me (hears server count l)) p.lease) (λ e. tt)
      (goes_on_says h May p (λ l. settled (hears server count l)) (λ l. dones h.me (hears server count l)) p.lease (λ l. dones_sent h May (filter _ l.outbox))))
  chunk_tells handle (chunks.Nack stamp refusal) =
      let h = here_of s moment handle None in let p = place_of handle s in let May = TellsOwn s (message_with (bodies.About handle (chunks.Nack stamp refusal))) moment in
      from_says h May p from (λ server. holding.nack h p server stamp refusal) (λ server.
      or_says h May (unless_leased stamp p.slot p.lease) unanswered (supplies_to h refusal server p.lease) (λ e. tt) (supplies_says h May p refusal server p.lease))
  chunk_tells handle (chunks.Fetch req stamp epoch asked) =
      let h = here_of s moment handle None in let p = place_of handle s in let May = TellsOwn s (message_with (bodies.About handle (chunks.Fetch req stamp epoch asked))) moment in
      or_says h May (other_epoch h epoch) (fetching.refuses h p req) (fetching.gives h p req (fetching.given stamp asked p.slot)) (λ e. (tt, bad_sent h May p.slot (damaged_block e))) (gives_says h May p req (fetching.given stamp asked p.slot))
  chunk_tells handle (chunks.CopyOut stamp target with_sealed) =
      let h = here_of s moment handle None in let p = place_of handle s in let May = TellsOwn s (message_with (bodies.About handle (chunks.CopyOut stamp target with_sealed))) moment in
      or_says h May (other_epoch h stamp.epoch) (messages.unpromised h p stamp) (messages.sends_copy h p stamp target (moves.copy_out stamp with_sealed p.slot)) (unpromised_says h May p stamp) (sends_says h May p stamp target (moves.copy_out stamp with_sealed p.slot))
  chunk_tells handle (chunks.CopyIn stamp image sealed) =
      let h = here_of s moment handle None in let p = place_of handle s in let May = TellsOwn s (message_with (bodies.About handle (chunks.CopyIn stamp image sealed))) moment in
      or_says h May (other_epoch h stamp.epoch) (messages.unpromised h p stamp) (messages.promises h p stamp (moves.copy_in h.block h.chunk stamp image sealed p.slot)) (unpromised_says h May p stamp)
      (promises_says h May p stamp (moves.copy_in h.block h.chunk stamp image sealed p.slot))
  chunk_tells handle (chunks.Drop epoch promise) =
      let h = here_of s moment handle None in let p = place_of handle s in let May = TellsOwn s (message_with (bodies.About handle (chunks.Drop epoch promise))) moment in
      or_says h May (other_epoch h epoch) unanswered (messages.drops (slots.drop_replica promise p.slot)) (λ e. tt) (drops_says h May p (slots.drop_replica promise p.slot))
  chunk_tells handle (chunks.Promised stamp count carried) = tt
  chunk_tells handle (chunks.Unpromised stamp refusal) = tt
  chunk_tells handle (chunks.Renew stamp) = tt
  chunk_tells handle (chunks.Bad stamp) = tt

  copy_tells : (May : ReqId → Refusal → Type 0) (h new : Here) (source target : Place) (stamp : Stamp) (o : Option Refusal) (m : Result Slot Refusal) → AllByRecursion (λ (k : Message). Only May k.body) (messages.or_copy o (messages.not_copied h source new stamp) (messages.copies h source new target stamp m)).target.sent
  copy_tells May h new source target stamp (Some e) m = (tt, bad_sent h May source.slot (damaged_block e))
  copy_tells May h new source target stamp None (Err e) = (tt, bad_sent h May source.slot (damaged_block e))
  copy_tells May h new source target stamp None (Ok t) = (tt, tt)

  learn_tells : (May : ReqId → Refusal → Type 0) (epoch : ℕ) (end : EpochEnd) → AllByRecursion (λ (k : Message). Only May k.body) (learn s epoch end).sent
  learn_tells May epoch end = by_case (epoch == s.kept.epoch) (epoch == s.kept.epoch + 1)
    where
      by_case : (a b : Bool) → AllByRecursion (λ (k : Message). Only May k.body) (cond a (learned s epoch end s) (cond b (learned s epoch end (with_leases (leases_after end s.dropped.leases) (with_store (stores.learned epoch end (store_of s)) s)))
          (record { after = s; sent = tell s.me nodes.Master (bodies.Behind s.kept.epoch) ∷ []; said = Some (refusals.Epoch s.kept.epoch) }))).sent
      by_case true b = (tt, tt)
      by_case false true = (tt, tt)
      by_case false false = (tt, tt)

  body_tells : (body : Body) → Tells body (handle_body s from body moment).sent
  body_tells (bodies.About handle said) = chunk_tells handle said
  body_tells (bodies.MakeCopy handle at new_handle stamp) =
      let h : Here = here_of s moment handle None in
      copy_tells (TellsOwn s (message_with (bodies.MakeCopy handle at new_handle stamp)) moment) h (here_of s moment new_handle None) (place_of handle s) (place_of new_handle s) stamp (other_epoch h stamp.epoch) (moves.make_copy at stamp (place_of handle s).slot (place_of new_handle s).slot)
  body_tells (bodies.Epoch epoch end) = learn_tells (TellsOwn s (message_with (bodies.Epoch epoch end)) moment) epoch end
  body_tells (bodies.Push q bytes) = tt
  body_tells (bodies.Call q call) = tt
  body_tells (bodies.Reply q result) = tt
  body_tells (bodies.Done q result) = tt
  body_tells (bodies.Bytes q result) = tt
  body_tells (bodies.Report epoch replicas) = tt
  body_tells (bodies.Learned epoch handles) = tt
  body_tells (bodies.Behind epoch) = tt

pub tells_refusals : TellsRefusals
tells_refusals s message moment = body_tells s message.from message.to moment message.body

pub quiet_ticks : QuietTicks
quiet_ticks s moment = by_entries (fin.entries s.dropped.leases)
  where
    by_entries : (entries : List (ℕ × PrimaryLease)) → AllByRecursion (λ (m : Message). Only (λ q e. ⊥) m.body) (servers.reminds_all s.me moment entries)
    by_entries [] = tt
    by_entries (e ∷ entries) = joined s.me e.0 (λ q f. ⊥) (cond (is_over moment e.1) [] (reminds s.me e.0 e.1)) (servers.reminds_all s.me moment entries) (by_over (is_over moment e.1)) (by_entries entries)
      where
        by_over : (b : Bool) → AllByRecursion (λ (m : Message). Only (λ q e. ⊥) m.body) (cond b [] (reminds s.me e.0 e.1))
        by_over true = tt
        by_over false = reminds_sent s.me e.0 (λ q f. ⊥) e.1 e.1.outbox
