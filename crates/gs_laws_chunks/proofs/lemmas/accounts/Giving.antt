-- What a server gives of a chunk, or refuses to give, it tells in answer to a fetch.
use Rattle.std.proofs.Common.{◌≡◌, refl, sym, ap, subst, ℕ, Bool, true, false, cond, List, [], ◌∷◌, ◌++◌, map, Option, Some, None, Result, Ok, Err, length}
use Rattle.std.specs.Prelude.{◌==◌, ◌+◌, flat_map, nat_le, nat_lt}
use Rattle.std.specs.FinMap as fin
use Rattle.std.specs.List.{AllByRecursion, filter, find, list_any}
use Rattle.gs_base.specs.declared.epoch.EpochEnd.{EpochEnd}
use Rattle.gs_base.specs.declared.numbers.Moment.{Moment}
use Rattle.gs_base.specs.declared.numbers.ReqId.{ReqId}
use Rattle.gs_base.specs.declared.numbers.Stamp.{Stamp}
use Rattle.gs_base.specs.declared.refusal.Refusal.{Refusal}
use Rattle.gs_base.specs.declared.refusal.Refusal.TheVariants as refusals
use Rattle.gs_lease.specs.declared.held.Grant.{Grant}
use Rattle.gs_replica.specs.Copies.{Image, SealedImage}
use Rattle.gs_replica.specs.declared.op.Done.{Done}
use Rattle.gs_replica.specs.declared.op.EditOutcome.TheVariants.{Padded}
use Rattle.gs_msg.specs.Ops.{in_replica}
use Rattle.gs_msg.specs.declared.body.Body.{Body}
use Rattle.gs_msg.specs.declared.body.Body.TheVariants as bodies
use Rattle.gs_msg.specs.declared.body.Given.{Given}
use Rattle.gs_msg.specs.declared.body.Given.TheVariants as givens
use Rattle.gs_msg.specs.declared.chunk.Asked.{Asked}
use Rattle.gs_msg.specs.declared.chunk.Asked.TheVariants as asks
use Rattle.gs_msg.specs.declared.chunk.Chunk.{Chunk}
use Rattle.gs_msg.specs.declared.chunk.Chunk.TheVariants as chunks
use Rattle.gs_msg.specs.declared.message.Message.{Message}
use Rattle.gs_msg.specs.declared.node.NodeId.{NodeId}
use Rattle.gs_msg.specs.declared.node.NodeId.TheVariants as nodes
use Rattle.gs_msg.specs.declared.op.Op.{Op}
use Rattle.gs_store.specs.Moves as moves
use Rattle.gs_store.specs.Serving.{apply, digest_in, done_in, length_in, read_of, unless_reached}
use Rattle.gs_store.specs.Slots.{Live, Slot, check_grant, first_of, take_lease, unless, unless_live, unless_promised}
use Rattle.gs_store.specs.Slots as slots
use Rattle.gs_store.specs.Stores as stores
use Rattle.gs_server_lease.specs.declared.lease.Open.{Open}
use Rattle.gs_server_lease.specs.Leases.{PrimaryLease, done_at_once, done_of, dones, forward_of, forwards, forwards_again, hears, is_acknowledged, is_over, lacks, reminds, reminds_of, renews, settled, supplies, tell, with_bytes}
use Rattle.gs_server_lease.specs.Numbering.{is_passed, numbered_op}
use Rattle.gs_server.specs.declared.turn.KeptRefusal.{KeptRefusal}
use Rattle.gs_server.specs.Edits.{acknowledges, bytes_of, bytes_or_none, declines, edit, is_known_of_all, new_edit, numbers, numbers_as, numbers_if, numbers_or_passes, opened, refused_edit, refused_once, repeated, takes_if, takes_next, unless_done, unless_kept, unless_next, unless_numbered}
use Rattle.gs_server.specs.Edits as edits
use Rattle.gs_server.specs.Fetches as fetching
use Rattle.gs_server.specs.Holding.{from_server, goes_on, is_held, supplies_to, takes, unless_leased, wants_bytes}
use Rattle.gs_server.specs.Holding as holding
use Rattle.gs_server.specs.Places.{Here, Part, Place, damaged_block, or_else, other_epoch, sending, tells_bad, unanswered}
use Rattle.gs_server.specs.Promises as messages
use Rattle.gs_server.specs.Runs.{slot_in}
use Rattle.gs_server.specs.Servers.{Server, about_chunk, handle_body, here_of, learned, leases_after, place_of, request_in, store_of, with_leases, with_store}
use Rattle.gs_server.specs.Servers as servers
use Rattle.gs_laws_parts.proofs.lemmas.server.Lists.{all_flat}

-- this asks for bytes of some chunk for this request
abbrev pub IsFetchOf : Body → ReqId → Type 0
IsFetchOf body req = (chunk : ℕ) × (stamp : Stamp) × (epoch : ℕ) × (asked : Asked) × (body ≡ bodies.About chunk (chunks.Fetch req stamp epoch asked))

-- if something is given, this holds of its request; and that if it is refused
abbrev pub GivesOr : (P Q : ReqId → Type 0) → Body → Type 0
GivesOr P Q (bodies.Bytes req (Ok given)) = P req
GivesOr P Q (bodies.Bytes req (Err refusal)) = Q req
GivesOr P Q body = Unit {0}

abbrev pub GivesIf : (ReqId → Type 0) → Body → Type 0
GivesIf P body = GivesOr P (λ req. Unit {0}) body

module _ (P Q : ReqId → Type 0) (h : Here) where
  abbrev AreFetched : List Message → Type 0
  AreFetched messages = AllByRecursion (λ (m : Message). GivesOr P Q m.body) messages

  both_sent : (xs ys : List Message) → AreFetched xs → AreFetched ys → AreFetched (xs ++ ys)
  both_sent [] ys first second = second
  both_sent (x ∷ xs) ys first second = (first.0, both_sent xs ys first.1 second)

  either_sent : (test : Bool) (xs ys : List Message) → AreFetched xs → AreFetched ys → AreFetched (cond test xs ys)
  either_sent true xs ys first second = first
  either_sent false xs ys first second = second

  bad_sent : (s : Slot) (o : Option ℕ) → AreFetched (tells_bad h s o)
  bad_sent s None = tt
  bad_sent s (Some block) = (tt, tt)

  -- ---- leases

  dones_sent : (xs : List (ℕ × Open)) → AreFetched (map (done_of h.me) xs)
  dones_sent [] = tt
  dones_sent (x ∷ xs) = (tt, dones_sent xs)

  forwards_sent : (l : PrimaryLease) (bytes : Option (List ℕ)) (e : ℕ × Open) (members : List ℕ) → AreFetched (map (forward_of h.me h.handle l bytes e) members)
  forwards_sent l bytes e [] = tt
  forwards_sent l bytes e (member ∷ members) = (tt, forwards_sent l bytes e members)

  supplied : (l : PrimaryLease) (server : ℕ) (o : Option (ℕ × Open)) → AreFetched (with_bytes h.me h.handle l server o)
  supplied l server None = tt
  supplied l server (Some e) = (tt, tt)

  again_sent : (l : PrimaryLease) (edits : List (ℕ × Open)) → AreFetched (flat_map (forwards_again h.me h.handle l) edits)
  again_sent l [] = tt
  again_sent l (e ∷ edits) =
      both_sent (forwards_again h.me h.handle l e) (flat_map (forwards_again h.me h.handle l) edits) (forwards_sent l None e (filter (lacks l.told e.0) l.grant.members)) (again_sent l edits)

  reminds_sent : (l : PrimaryLease) (edits : List (ℕ × Open)) → AreFetched (reminds_of h.me h.handle l edits)
  reminds_sent l [] = tt
  reminds_sent l (e ∷ edits) = (tt, again_sent l (e ∷ edits))

  -- ---- what a message about a chunk comes to

  abbrev Says : Part → Type 0
  Says part = AreFetched part.sent

  or_says : (o : Option Refusal) (refuses : Refusal → Part) (part : Part) → ((e : Refusal) → Says (refuses e)) → Says part → Says (or_else o refuses part)
  or_says None refuses part each says = says
  or_says (Some e) refuses part each says = each e

  either_says : (test : Bool) (x y : Part) → Says x → Says y → Says (cond test x y)
  either_says true x y first second = first
  either_says false x y first second = second

  module _ (p : Place) where
    unpromised_says : (stamp : Stamp) (e : Refusal) → Says (messages.unpromised h p stamp e)
    unpromised_says stamp e = (tt, bad_sent p.slot (damaged_block e))

    promises_says : (stamp : Stamp) (m : Result Slot Refusal) → Says (messages.promises h p stamp m)
    promises_says stamp (Ok s) = (tt, tt)
    promises_says stamp (Err e) = unpromised_says stamp e

    sends_says : (stamp : Stamp) (target : ℕ) (m : Result (Image × Option SealedImage) Refusal) → Says (messages.sends_copy h p stamp target m)
    sends_says stamp target (Ok copy) = (tt, tt)
    sends_says stamp target (Err e) = unpromised_says stamp e

    drops_says : (m : Result Slot Refusal) → Says (messages.drops m)
    drops_says (Ok s) = tt
    drops_says (Err e) = tt

    takes_says : (given : Grant) (m : Result Slot Refusal) → Says (takes given m)
    takes_says given (Ok s) = tt
    takes_says given (Err e) = tt

    goes_on_says : (next : PrimaryLease → PrimaryLease) (sent : PrimaryLease → List Message) (o : Option PrimaryLease) → ((l : PrimaryLease) → AreFetched (sent l)) → Says (goes_on next sent o)
    goes_on_says next sent None told = tt
    goes_on_says next sent (Some l) told = told l

    supplies_says : (e : Refusal) (server : ℕ) (o : Option PrimaryLease) → Says (supplies_to h e server o)
    supplies_says e server None = tt
    supplies_says e server (Some l) =
        let found : Option (ℕ × Open) = find (λ edit. lacks l.told edit.0 server) l.outbox in
        either_sent (wants_bytes e) (supplies h.me h.handle server l) []
        (either_sent (list_any (λ member. member == server) l.grant.members) (with_bytes h.me h.handle l server found) [] (supplied l server found) tt) tt

    gives_says : (req : ReqId) (m : Result Given Refusal) → P req → Q req → Says (fetching.gives h p req m)
    gives_says req (Ok found) fetched refused = (fetched, tt)
    gives_says req (Err e) fetched refused = (refused, bad_sent p.slot (damaged_block e))

    from_says : (from : NodeId) (part : ℕ → Part) → ((server : ℕ) → Says (part server)) → Says (from_server from part)
    from_says (nodes.Server server) part each = each server
    from_says nodes.Master part each = tt
    from_says (nodes.Client client) part each = tt

    -- edits
    refused_edit_says : (req : ReqId) (e : Refusal) → Says (refused_edit h p req e)
    refused_edit_says req e = (tt, bad_sent p.slot (damaged_block e))

    kept_says : (req : ReqId) (kept : Option KeptRefusal) (part : Part) → Says part → Says (unless_kept h req kept part)
    kept_says req None part says = says
    kept_says req (Some kept) part says =
        either_says (nat_lt req.number kept.number) (refused_once h req refusals.Old) (cond (req.number == kept.number) (refused_once h req kept.refusal) part) (tt, tt)
        (either_says (req.number == kept.number) (refused_once h req kept.refusal) part (tt, tt) says)

    done_says : (req : ReqId) (last : Option Done) (part : Part) → Says part → Says (unless_done h p req last part)
    done_says req None part says = says
    done_says req (Some last) part says =
        either_says (req.number == last.number) (repeated h p req last.outcome) (cond (nat_lt req.number last.number) (refused_once h req refusals.Old) part)
        (either_says (is_known_of_all req p.slot p.lease) (sending (edits.done h req (Ok last.outcome) ∷ [])) (sending []) (tt, tt) tt)
        (either_says (nat_lt req.number last.number) (refused_once h req refusals.Old) part (tt, tt) says)

    numbers_says : (s : Slot) (l : PrimaryLease) (number : ℕ) (e : Open) → Says (numbers h s l number e)
    numbers_says s l number e =
        both_sent (forwards h.me h.handle l (number, e)) (done_at_once h.me number e l)
        (forwards_sent l None (number, e) (filter _ l.grant.members))
        (either_sent (is_acknowledged (hears h.me number l) number) (done_of h.me (number, e) ∷ []) [] (tt, tt) tt)

    numbers_if_says : (l : PrimaryLease) (count : ℕ) (e : Open) (m : Result Slot Refusal) → Says (numbers_if h p l count e m)
    numbers_if_says l count e (Err refusal) = refused_edit_says e.req refusal
    numbers_if_says l count e (Ok s) =
        either_says (count == edits.last_count) (refused_edit h p e.req refusals.Exhausted) (numbers h s l (count + 1) e) (refused_edit_says e.req refusals.Exhausted) (numbers_says s l (count + 1) e)

    numbered_says : (req : ReqId) (op : Op) (bytes : List ℕ) (live : Option Live) (held : Option PrimaryLease) → Says (numbers_or_passes h p req op bytes live held)
    numbered_says req op bytes None held = refused_edit_says req refusals.NoReplica
    numbered_says req op bytes (Some live) None = refused_edit_says req refusals.NotPrimary
    numbered_says req op bytes (Some live) (Some l) =
        let e : Open = opened req (numbered_op h.chunk (length live.replica.held.chunk.bytes) op) bytes live in
        let count : ℕ = live.replica.held.count in
        either_says (is_passed h.chunk (length live.replica.held.chunk.bytes) op) (sending (edits.done h req (Ok Padded) ∷ [])) (numbers_as h p live l e) (tt, tt)
        (numbers_if_says l count e (apply l.grant.stamp (count + 1) req (in_replica e.op) e.bytes p.slot))

    declines_says : (from : NodeId) (stamp : Stamp) (e : Refusal) → Says (declines h p from stamp e)
    declines_says from stamp e = (tt, bad_sent p.slot (damaged_block e))

    taken_says : (from : NodeId) (stamp : Stamp) (number : ℕ) (op : Op) (m : Result Slot Refusal) → Says (takes_if h p from stamp number op m)
    taken_says from stamp number op (Ok s) = (tt, tt)
    taken_says from stamp number op (Err e) = declines_says from stamp e

    forwarded_says : (from : NodeId) (stamp : Stamp) (number : ℕ) (req : ReqId) (op : Op) (bytes : Option (List ℕ)) (live : Option Live) → Says (edits.takes h p from stamp number req op bytes live)
    forwarded_says from stamp number req op bytes None = declines_says from stamp refusals.NoReplica
    forwarded_says from stamp number req op bytes (Some live) =
        let count : ℕ = live.replica.held.count in
        either_says (nat_le number count) (acknowledges h from stamp count) (takes_next h p from stamp number req op bytes count) (tt, tt)
        (or_says (unless_next count number bytes) (declines h p from stamp) (takes_if h p from stamp number op (apply stamp number req (in_replica op) (bytes_or_none bytes) p.slot)) (declines_says from stamp)
        (taken_says from stamp number op (apply stamp number req (in_replica op) (bytes_or_none bytes) p.slot)))

    -- any message
    chunk_gives : (from : NodeId) (chunk : Chunk) → ((req : ReqId) (stamp : Stamp) (epoch : ℕ) (asked : Asked) → chunk ≡ chunks.Fetch req stamp epoch asked → P req × Q req) → Says (about_chunk h p from chunk)
    chunk_gives from (chunks.Create stamp) fetches =
        or_says (other_epoch h stamp.epoch) (messages.unpromised h p stamp) (messages.promises h p stamp (slots.create h.block h.chunk stamp p.slot)) (unpromised_says stamp) (promises_says stamp (slots.create h.block h.chunk stamp p.slot))
    chunk_gives from (chunks.Advance stamp) fetches =
        or_says (other_epoch h stamp.epoch) (messages.unpromised h p stamp) (messages.promises h p stamp (slots.advance stamp p.slot)) (unpromised_says stamp) (promises_says stamp (slots.advance stamp p.slot))
    chunk_gives from (chunks.Grant given) fetches =
        or_says (first_of (other_epoch h given.stamp.epoch ∷ check_grant given.stamp p.slot ∷ [])) unanswered (cond (is_held given.stamp p.lease) (sending []) (takes given (take_lease given.stamp p.slot))) (λ e. tt)
        (either_says (is_held given.stamp p.lease) (sending []) (takes given (take_lease given.stamp p.slot)) tt (takes_says given (take_lease given.stamp p.slot)))
    chunk_gives from (chunks.Renewed stamp end) fetches = or_says (unless_leased stamp p.slot p.lease) unanswered (goes_on (renews end) (λ l. []) p.lease) (λ e. tt) (goes_on_says (renews end) (λ l. []) p.lease (λ l. tt))
    chunk_gives from (chunks.Edit req stamp op) fetches =
        let bytes : List ℕ = bytes_or_none (bytes_of op None h.pushed) in
        done_says req (done_in p.slot.live req.client.0) (unless_kept h req h.refused (new_edit h p req stamp op))
        (kept_says req h.refused (new_edit h p req stamp op)
        (or_says (unless_numbered h p stamp op) (refused_edit h p req) (numbers_or_passes h p req op bytes p.slot.live p.lease) (refused_edit_says req) (numbered_says req op bytes p.slot.live p.lease)))
    chunk_gives from (chunks.Forward stamp number req op carried) fetches =
        or_says (first_of (unless_live p.slot.live ∷ unless_promised stamp p.slot ∷ [])) (declines h p from stamp) (edits.takes h p from stamp number req op (bytes_of op carried h.pushed) p.slot.live) (declines_says from stamp)
        (forwarded_says from stamp number req op (bytes_of op carried h.pushed) p.slot.live)
    chunk_gives from (chunks.Ack stamp count) fetches = from_says from (λ server. holding.ack h p server stamp count) (λ server.
        or_says (unless_leased stamp p.slot p.lease) unanswered (goes_on (λ l. settled (hears server count l)) (λ l. dones h.me (hears server count l)) p.lease) (λ e. tt)
        (goes_on_says (λ l. settled (hears server count l)) (λ l. dones h.me (hears server count l)) p.lease (λ l. dones_sent (filter _ l.outbox))))
    chunk_gives from (chunks.Nack stamp refusal) fetches = from_says from (λ server. holding.nack h p server stamp refusal) (λ server.
        or_says (unless_leased stamp p.slot p.lease) unanswered (supplies_to h refusal server p.lease) (λ e. tt) (supplies_says refusal server p.lease))
    chunk_gives from (chunks.Fetch req stamp epoch asked) fetches =
        or_says (other_epoch h epoch) (fetching.refuses h p req) (fetching.gives h p req (fetching.given stamp asked p.slot)) (λ e. ((fetches req stamp epoch asked refl).1, bad_sent p.slot (damaged_block e)))
        (gives_says req (fetching.given stamp asked p.slot) (fetches req stamp epoch asked refl).0 (fetches req stamp epoch asked refl).1)
    chunk_gives from (chunks.CopyOut stamp target with_sealed) fetches =
        or_says (other_epoch h stamp.epoch) (messages.unpromised h p stamp) (messages.sends_copy h p stamp target (moves.copy_out stamp with_sealed p.slot)) (unpromised_says stamp) (sends_says stamp target (moves.copy_out stamp with_sealed p.slot))
    chunk_gives from (chunks.CopyIn stamp image sealed) fetches =
        or_says (other_epoch h stamp.epoch) (messages.unpromised h p stamp) (messages.promises h p stamp (moves.copy_in h.block h.chunk stamp image sealed p.slot)) (unpromised_says stamp)
        (promises_says stamp (moves.copy_in h.block h.chunk stamp image sealed p.slot))
    chunk_gives from (chunks.Drop epoch promise) fetches = or_says (other_epoch h epoch) unanswered (messages.drops (slots.drop_replica promise p.slot)) (λ e. tt) (drops_says (slots.drop_replica promise p.slot))
    chunk_gives from (chunks.Promised stamp count carried) fetches = tt
    chunk_gives from (chunks.Unpromised stamp refusal) fetches = tt
    chunk_gives from (chunks.Renew stamp) fetches = tt
    chunk_gives from (chunks.Bad stamp) fetches = tt

-- ---- a server

module _ (P Q : ReqId → Type 0) where
  copy_gives : (h new : Here) (source target : Place) (stamp : Stamp) (o : Option Refusal) (m : Result Slot Refusal) → AllByRecursion (λ (m : Message). GivesOr P Q m.body) (messages.or_copy o (messages.not_copied h source new stamp) (messages.copies h source new target stamp m)).target.sent
  copy_gives h new source target stamp (Some e) m = (tt, bad_sent P Q h source.slot (damaged_block e))
  copy_gives h new source target stamp None (Err e) = (tt, bad_sent P Q h source.slot (damaged_block e))
  copy_gives h new source target stamp None (Ok s) = (tt, tt)

  learn_gives : (s : Server) (epoch : ℕ) (end : EpochEnd) → AllByRecursion (λ (m : Message). GivesOr P Q m.body) (servers.learn s epoch end).sent
  learn_gives s epoch end = by_case (epoch == s.kept.epoch) (epoch == s.kept.epoch + 1)
    where
      by_case : (a b : Bool) → AllByRecursion (λ (m : Message). GivesOr P Q m.body) (cond a (learned s epoch end s) (cond b (learned s epoch end (with_leases (leases_after end s.dropped.leases) (with_store (stores.learned epoch end (store_of s)) s)))
          (record { after = s; sent = tell s.me nodes.Master (bodies.Behind s.kept.epoch) ∷ []; said = Some (refusals.Epoch s.kept.epoch) }))).sent
      by_case true b = (tt, tt)
      by_case false true = (tt, tt)
      by_case false false = (tt, tt)

  pub ticks_give : (s : Server) (moment : Moment) → AllByRecursion (λ (m : Message). GivesOr P Q m.body) (servers.tick s moment).sent
  ticks_give s moment = all_flat (λ (m : Message). GivesOr P Q m.body) (λ (e : ℕ × PrimaryLease). cond (is_over moment e.1) [] (reminds s.me e.0 e.1)) (fin.entries s.dropped.leases) (λ e there. by_case e (is_over moment e.1))
    where
      by_case : (e : ℕ × PrimaryLease) (b : Bool) → AllByRecursion (λ (m : Message). GivesOr P Q m.body) (cond b [] (reminds s.me e.0 e.1))
      by_case e true = tt
      by_case e false = reminds_sent P Q (here_of s moment e.0 None) e.1 e.1.outbox

-- whatever it hears
pub handled_tells : (s : Server) (from : NodeId) (body : Body) (moment : Moment) → AllByRecursion (λ (m : Message). GivesOr (IsFetchOf body) (IsFetchOf body) m.body) (handle_body s from body moment).sent
handled_tells s from (bodies.About handle said) moment =
    chunk_gives (IsFetchOf (bodies.About handle said)) (IsFetchOf (bodies.About handle said)) (here_of s moment handle (request_in said)) (place_of handle s) from said
    (λ req stamp epoch asked is. ((handle, stamp, epoch, asked, ap (bodies.About handle) is), (handle, stamp, epoch, asked, ap (bodies.About handle) is)))
handled_tells s from (bodies.Push req bytes) moment = tt
handled_tells s from (bodies.MakeCopy handle at new_handle stamp) moment =
    let h : Here = here_of s moment handle None in
    let Of : ReqId → Type 0 = IsFetchOf (bodies.MakeCopy handle at new_handle stamp) in
    copy_gives Of Of h (here_of s moment new_handle None) (place_of handle s) (place_of new_handle s) stamp (other_epoch h stamp.epoch) (moves.make_copy at stamp (place_of handle s).slot (place_of new_handle s).slot)
handled_tells s from (bodies.Epoch epoch end) moment = learn_gives (IsFetchOf (bodies.Epoch epoch end)) (IsFetchOf (bodies.Epoch epoch end)) s epoch end
handled_tells s from (bodies.Call req call) moment = tt
handled_tells s from (bodies.Reply req result) moment = tt
handled_tells s from (bodies.Done req result) moment = tt
handled_tells s from (bodies.Bytes req result) moment = tt
handled_tells s from (bodies.Report epoch replicas) moment = tt
handled_tells s from (bodies.Learned epoch handles) moment = tt
handled_tells s from (bodies.Behind epoch) moment = tt

-- of what is given alone
given_alone : (P Q : ReqId → Type 0) (body : Body) → GivesOr P Q body → GivesIf P body
given_alone P Q (bodies.Bytes req (Ok given)) gives = gives
given_alone P Q (bodies.Bytes req (Err refusal)) gives = tt
given_alone P Q (bodies.About handle said) gives = tt
given_alone P Q (bodies.Push req bytes) gives = tt
given_alone P Q (bodies.MakeCopy handle at new_handle stamp) gives = tt
given_alone P Q (bodies.Epoch epoch end) gives = tt
given_alone P Q (bodies.Call req call) gives = tt
given_alone P Q (bodies.Reply req result) gives = tt
given_alone P Q (bodies.Done req result) gives = tt
given_alone P Q (bodies.Report epoch replicas) gives = tt
given_alone P Q (bodies.Learned epoch handles) gives = tt
given_alone P Q (bodies.Behind epoch) gives = tt

all_given_alone : (P Q : ReqId → Type 0) (messages : List Message) → AllByRecursion (λ (m : Message). GivesOr P Q m.body) messages → AllByRecursion (λ (m : Message). GivesIf P m.body) messages
all_given_alone P Q [] all = tt
all_given_alone P Q (m ∷ messages) all = (given_alone P Q m.body all.0, all_given_alone P Q messages all.1)

pub handled_gives : (s : Server) (from : NodeId) (body : Body) (moment : Moment) → AllByRecursion (λ (m : Message). GivesIf (IsFetchOf body) m.body) (handle_body s from body moment).sent
handled_gives s from body moment = all_given_alone (IsFetchOf body) (IsFetchOf body) (handle_body s from body moment).sent (handled_tells s from body moment)

pub tick_gives : (P : ReqId → Type 0) (s : Server) (moment : Moment) → AllByRecursion (λ (m : Message). GivesIf P m.body) (servers.tick s moment).sent
tick_gives P s moment = ticks_give P (λ req. Unit {0}) s moment

-- ---- a server that has no replica

none_given : (stamp : Stamp) (asked : Asked) (s : Slot) → s.live ≡ None → fetching.given stamp asked s ≡ Err refusals.NoReplica
none_given stamp (asks.Bytes offset many) s none = ap (λ o. fetching.giving givens.Bytes (read_of stamp offset many s o)) none
none_given stamp asks.Length s none = ap (λ o. fetching.giving givens.Length (unless (first_of (unless_live o ∷ unless_reached stamp s ∷ [])) (Ok (length_in o)))) none
none_given stamp (asks.Digest block) s none = ap (λ o. fetching.giving givens.Digest (unless (first_of (unless_live o ∷ unless_reached stamp s ∷ [])) (digest_in block o))) none

-- gives nothing of the chunk
pub without_none : (s : Server) (from : NodeId) (chunk : ℕ) (req : ReqId) (stamp : Stamp) (epoch : ℕ) (asked : Asked) (moment : Moment) → (slot_in chunk s).live ≡ None
    → AllByRecursion (λ (m : Message). GivesIf (λ req. ⊥) m.body) (handle_body s from (bodies.About chunk (chunks.Fetch req stamp epoch asked)) moment).sent
without_none s from chunk req stamp epoch asked moment none =
    let h : Here = here_of s moment chunk (Some req) in
    let p : Place = place_of chunk s in
    let refused : (e : Refusal) → Says (λ req. ⊥) (λ req. Unit {0}) h (fetching.refuses h p req e) = λ e. (tt, bad_sent (λ req. ⊥) (λ req. Unit {0}) h p.slot (damaged_block e)) in
    or_says (λ req. ⊥) (λ req. Unit {0}) h (other_epoch h epoch) (fetching.refuses h p req) (fetching.gives h p req (fetching.given stamp asked p.slot)) refused
    (subst (λ r. Says (λ req. ⊥) (λ req. Unit {0}) h (fetching.gives h p req r)) (sym (none_given stamp asked p.slot none)) (refused refusals.NoReplica))
