-- What a server sends where a message about a chunk comes is about that chunk.
use Rattle.std.proofs.Common.{◌≡◌, refl, subst, ℕ, Bool, true, false, cond, List, [], ◌∷◌, ◌++◌, map, Option, Some, None, Result, Ok, Err, length}
use Rattle.std.specs.Prelude.{◌==◌, ◌+◌, flat_map, nat_le, nat_lt}
use Rattle.std.specs.List.{AllByRecursion, filter, find, list_any}
use Rattle.gs_base.specs.declared.numbers.ReqId.{ReqId}
use Rattle.gs_base.specs.declared.numbers.Stamp.{Stamp}
use Rattle.gs_base.specs.declared.refusal.Refusal.{Refusal}
use Rattle.gs_base.specs.declared.refusal.Refusal.TheVariants as refusals
use Rattle.gs_lease.specs.declared.held.Grant.{Grant}
use Rattle.gs_replica.specs.Copies.{Image, SealedImage}
use Rattle.gs_replica.specs.declared.op.Done.{Done}
use Rattle.gs_replica.specs.declared.op.EditOutcome.TheVariants.{Padded}
use Rattle.gs_msg.specs.Ops.{in_replica}
use Rattle.gs_msg.specs.declared.body.Body.{Body}
use Rattle.gs_msg.specs.declared.body.Body.TheVariants as bodies
use Rattle.gs_msg.specs.declared.body.Given.{Given}
use Rattle.gs_msg.specs.declared.chunk.Chunk.{Chunk}
use Rattle.gs_msg.specs.declared.chunk.Chunk.TheVariants as chunks
use Rattle.gs_msg.specs.declared.message.Message.{Message}
use Rattle.gs_msg.specs.declared.node.NodeId.{NodeId}
use Rattle.gs_msg.specs.declared.node.NodeId.TheVariants as nodes
use Rattle.gs_msg.specs.declared.op.Op.{Op}
use Rattle.gs_store.specs.Moves as moves
use Rattle.gs_store.specs.Serving.{apply, done_in}
use Rattle.gs_store.specs.Slots.{Live, Slot, check_grant, first_of, take_lease, unless_live, unless_promised}
use Rattle.gs_store.specs.Slots as slots
use Rattle.gs_server_lease.specs.declared.lease.Open.{Open}
use Rattle.gs_server.specs.declared.turn.KeptRefusal.{KeptRefusal}
use Rattle.gs_server.specs.Edits.{acknowledges, bytes_of, bytes_or_none, declines, edit, is_known_of_all, new_edit, numbers, numbers_as, numbers_if, numbers_or_passes, opened, refused_edit, refused_once, repeated, takes_if, takes_next, unless_done, unless_kept, unless_next, unless_numbered}
use Rattle.gs_server.specs.Edits as edits
use Rattle.gs_server.specs.Fetches as fetching
use Rattle.gs_server.specs.Holding.{from_server, goes_on, is_held, supplies_to, takes, unless_leased, wants_bytes}
use Rattle.gs_server.specs.Holding as holding
use Rattle.gs_server_lease.specs.Leases.{PrimaryLease, done_at_once, done_of, dones, forward_of, forwards, forwards_again, hears, is_acknowledged, lacks, reminds_of, renews, settled, supplies, with_bytes}
use Rattle.gs_server_lease.specs.Numbering.{numbered_op, is_passed}
use Rattle.gs_server.specs.Places.{Here, Part, Place, damaged_block, or_else, other_epoch, sending, tells_bad, unanswered}
use Rattle.gs_server.specs.Promises as messages
use Rattle.gs_server.specs.Servers.{about_chunk}
use Rattle.gs_laws_chunk.specs.machine.Machine.{ChunkWorld}
use Rattle.gs_laws_parts.specs.server.Showing.{Setting}
use Rattle.gs_laws_parts.specs.server.Telling.{ServersTell, TellsBody}
use Rattle.gs_laws_parts.specs.server.Causes.{Cause}
use Rattle.gs_laws_parts.specs.server.Answering.{NoYes, AnswersBody, AnswersEdit, IsByServer, AnswersOf, IsByServerAbout}

-- a body about a chunk, or one that says nothing of chunks, nor that an edit is done unless that may be told
abbrev pub IsOf : Bool → ℕ → Body → Type 0
IsOf tells handle (bodies.About other said) = (other ≡ handle) × IsByServerAbout said
IsOf tells handle (bodies.Push req bytes) = ⊥
IsOf tells handle (bodies.Report epoch replicas) = ⊥
IsOf tells handle (bodies.Learned epoch handles) = ⊥
IsOf tells handle (bodies.Epoch epoch end) = ⊥
IsOf tells handle (bodies.MakeCopy old at new stamp) = ⊥
IsOf tells handle (bodies.Call req call) = ⊥
IsOf tells handle (bodies.Reply req result) = ⊥
IsOf tells handle (bodies.Done req (Ok outcome)) = tells ≡ true
IsOf tells handle body = Unit {0}

-- the messages at which it is told that edits are done
abbrev pub may_answer : Chunk → Bool
may_answer (chunks.Edit req stamp op) = true
may_answer (chunks.Ack stamp count) = true
may_answer chunk = false

module _ (h : Here) (tells : Bool) where
  abbrev pub NoCalls : List Message → Type 0
  NoCalls messages = AllByRecursion (λ (m : Message). IsOf tells h.handle m.body) messages

  both_sent : (xs ys : List Message) → NoCalls xs → NoCalls ys → NoCalls (xs ++ ys)
  both_sent [] ys first second = second
  both_sent (x ∷ xs) ys first second = (first.0, both_sent xs ys first.1 second)

  either_sent : (test : Bool) (xs ys : List Message) → NoCalls xs → NoCalls ys → NoCalls (cond test xs ys)
  either_sent true xs ys first second = first
  either_sent false xs ys first second = second

  bad_sent : (s : Slot) (o : Option ℕ) → NoCalls (tells_bad h s o)
  bad_sent s None = tt
  bad_sent s (Some block) = ((refl, tt), tt)

  -- ---- leases

  dones_sent : tells ≡ true → (xs : List (ℕ × Open)) → NoCalls (map (done_of h.me) xs)
  dones_sent may [] = tt
  dones_sent may (x ∷ xs) = (may, dones_sent may xs)

  forwards_sent : (l : PrimaryLease) (bytes : Option (List ℕ)) (e : ℕ × Open) (members : List ℕ) → NoCalls (map (forward_of h.me h.handle l bytes e) members)
  forwards_sent l bytes e [] = tt
  forwards_sent l bytes e (member ∷ members) = ((refl, tt), forwards_sent l bytes e members)

  supplied : (l : PrimaryLease) (server : ℕ) (o : Option (ℕ × Open)) → NoCalls (with_bytes h.me h.handle l server o)
  supplied l server None = tt
  supplied l server (Some e) = ((refl, tt), tt)

  again_sent : (l : PrimaryLease) (edits : List (ℕ × Open)) → NoCalls (flat_map (forwards_again h.me h.handle l) edits)
  again_sent l [] = tt
  again_sent l (e ∷ edits) =
      both_sent (forwards_again h.me h.handle l e) (flat_map (forwards_again h.me h.handle l) edits) (forwards_sent l None e (filter (lacks l.told e.0) l.grant.members)) (again_sent l edits)

  pub reminds_sent : (l : PrimaryLease) (edits : List (ℕ × Open)) → NoCalls (reminds_of h.me h.handle l edits)
  reminds_sent l [] = tt
  reminds_sent l (e ∷ edits) = ((refl, tt), again_sent l (e ∷ edits))

  -- ---- what a message about a chunk comes to

  abbrev Says : Part → Type 0
  Says part = NoCalls part.sent

  or_says : (o : Option Refusal) (refuses : Refusal → Part) (part : Part) → ((e : Refusal) → Says (refuses e)) → Says part → Says (or_else o refuses part)
  or_says None refuses part each says = says
  or_says (Some e) refuses part each says = each e

  either_says : (test : Bool) (x y : Part) → Says x → Says y → Says (cond test x y)
  either_says true x y first second = first
  either_says false x y first second = second

  module _ (p : Place) where
    unpromised_says : (stamp : Stamp) (e : Refusal) → Says (messages.unpromised h p stamp e)
    unpromised_says stamp e = ((refl, tt), bad_sent p.slot (damaged_block e))

    promises_says : (stamp : Stamp) (m : Result Slot Refusal) → Says (messages.promises h p stamp m)
    promises_says stamp (Ok s) = ((refl, tt), tt)
    promises_says stamp (Err e) = unpromised_says stamp e

    sends_says : (stamp : Stamp) (target : ℕ) (m : Result (Image × Option SealedImage) Refusal) → Says (messages.sends_copy h p stamp target m)
    sends_says stamp target (Ok copy) = ((refl, tt), tt)
    sends_says stamp target (Err e) = unpromised_says stamp e

    drops_says : (m : Result Slot Refusal) → Says (messages.drops m)
    drops_says (Ok s) = tt
    drops_says (Err e) = tt

    takes_says : (given : Grant) (m : Result Slot Refusal) → Says (takes given m)
    takes_says given (Ok s) = tt
    takes_says given (Err e) = tt

    goes_on_says : (next : PrimaryLease → PrimaryLease) (sent : PrimaryLease → List Message) (o : Option PrimaryLease) → ((l : PrimaryLease) → NoCalls (sent l)) → Says (goes_on next sent o)
    goes_on_says next sent None told = tt
    goes_on_says next sent (Some l) told = told l

    supplies_says : (e : Refusal) (server : ℕ) (o : Option PrimaryLease) → Says (supplies_to h e server o)
    supplies_says e server None = tt
    supplies_says e server (Some l) =
        let found : Option (ℕ × Open) = find (λ edit. lacks l.told edit.0 server) l.outbox in
        either_sent (wants_bytes e) (supplies h.me h.handle server l) []
        (either_sent (list_any (λ member. member == server) l.grant.members) (with_bytes h.me h.handle l server found) [] (supplied l server found) tt) tt

    gives_says : (req : ReqId) (m : Result Given Refusal) → Says (fetching.gives h p req m)
    gives_says req (Ok found) = (tt, tt)
    gives_says req (Err e) = (tt, bad_sent p.slot (damaged_block e))

    from_says : (from : NodeId) (part : ℕ → Part) → ((server : ℕ) → Says (part server)) → Says (from_server from part)
    from_says (nodes.Server server) part each = each server
    from_says nodes.Master part each = tt
    from_says (nodes.Client client) part each = tt

    -- edits
    refused_edit_says : (req : ReqId) (e : Refusal) → Says (refused_edit h p req e)
    refused_edit_says req e = (tt, bad_sent p.slot (damaged_block e))

    kept_says : (req : ReqId) (kept : Option KeptRefusal) (part : Part) → Says part → Says (unless_kept h req kept part)
    kept_says req None part says = says
    kept_says req (Some kept) part says =
        either_says (nat_lt req.number kept.number) (refused_once h req refusals.Old) (cond (req.number == kept.number) (refused_once h req kept.refusal) part) (tt, tt)
        (either_says (req.number == kept.number) (refused_once h req kept.refusal) part (tt, tt) says)

    done_says : tells ≡ true → (req : ReqId) (last : Option Done) (part : Part) → Says part → Says (unless_done h p req last part)
    done_says may req None part says = says
    done_says may req (Some last) part says =
        either_says (req.number == last.number) (repeated h p req last.outcome) (cond (nat_lt req.number last.number) (refused_once h req refusals.Old) part)
        (either_says (is_known_of_all req p.slot p.lease) (sending (edits.done h req (Ok last.outcome) ∷ [])) (sending []) (may, tt) tt)
        (either_says (nat_lt req.number last.number) (refused_once h req refusals.Old) part (tt, tt) says)

    numbers_says : tells ≡ true → (s : Slot) (l : PrimaryLease) (number : ℕ) (e : Open) → Says (numbers h s l number e)
    numbers_says may s l number e =
        both_sent (forwards h.me h.handle l (number, e)) (done_at_once h.me number e l)
        (forwards_sent l None (number, e) (filter _ l.grant.members))
        (either_sent (is_acknowledged (hears h.me number l) number) (done_of h.me (number, e) ∷ []) [] (may, tt) tt)

    numbers_if_says : tells ≡ true → (l : PrimaryLease) (count : ℕ) (e : Open) (m : Result Slot Refusal) → Says (numbers_if h p l count e m)
    numbers_if_says may l count e (Err refusal) = refused_edit_says e.req refusal
    numbers_if_says may l count e (Ok s) =
        either_says (count == edits.last_count) (refused_edit h p e.req refusals.Exhausted) (numbers h s l (count + 1) e) (refused_edit_says e.req refusals.Exhausted) (numbers_says may s l (count + 1) e)

    numbered_says : tells ≡ true → (req : ReqId) (op : Op) (bytes : List ℕ) (live : Option Live) (held : Option PrimaryLease) → Says (numbers_or_passes h p req op bytes live held)
    numbered_says may req op bytes None held = refused_edit_says req refusals.NoReplica
    numbered_says may req op bytes (Some live) None = refused_edit_says req refusals.NotPrimary
    numbered_says may req op bytes (Some live) (Some l) =
        let e : Open = opened req (numbered_op h.chunk (length live.replica.held.chunk.bytes) op) bytes live in
        let count : ℕ = live.replica.held.count in
        either_says (is_passed h.chunk (length live.replica.held.chunk.bytes) op) (sending (edits.done h req (Ok Padded) ∷ [])) (numbers_as h p live l e) (may, tt)
        (numbers_if_says may l count e (apply l.grant.stamp (count + 1) req (in_replica e.op) e.bytes p.slot))

    declines_says : (from : NodeId) (stamp : Stamp) (e : Refusal) → Says (declines h p from stamp e)
    declines_says from stamp e = ((refl, tt), bad_sent p.slot (damaged_block e))

    taken_says : (from : NodeId) (stamp : Stamp) (number : ℕ) (op : Op) (m : Result Slot Refusal) → Says (takes_if h p from stamp number op m)
    taken_says from stamp number op (Ok s) = ((refl, tt), tt)
    taken_says from stamp number op (Err e) = declines_says from stamp e

    forwarded_says : (from : NodeId) (stamp : Stamp) (number : ℕ) (req : ReqId) (op : Op) (bytes : Option (List ℕ)) (live : Option Live) → Says (edits.takes h p from stamp number req op bytes live)
    forwarded_says from stamp number req op bytes None = declines_says from stamp refusals.NoReplica
    forwarded_says from stamp number req op bytes (Some live) =
        let count : ℕ = live.replica.held.count in
        either_says (nat_le number count) (acknowledges h from stamp count) (takes_next h p from stamp number req op bytes count) ((refl, tt), tt)
        (or_says (unless_next count number bytes) (declines h p from stamp) (takes_if h p from stamp number op (apply stamp number req (in_replica op) (bytes_or_none bytes) p.slot)) (declines_says from stamp)
        (taken_says from stamp number op (apply stamp number req (in_replica op) (bytes_or_none bytes) p.slot)))

    -- any message
    pub chunk_says : (from : NodeId) (chunk : Chunk) → (may_answer chunk ≡ true → tells ≡ true) → Says (about_chunk h p from chunk)
    chunk_says from (chunks.Create stamp) may =
        or_says (other_epoch h stamp.epoch) (messages.unpromised h p stamp) (messages.promises h p stamp (slots.create h.block h.chunk stamp p.slot)) (unpromised_says stamp) (promises_says stamp (slots.create h.block h.chunk stamp p.slot))
    chunk_says from (chunks.Advance stamp) may =
        or_says (other_epoch h stamp.epoch) (messages.unpromised h p stamp) (messages.promises h p stamp (slots.advance stamp p.slot)) (unpromised_says stamp) (promises_says stamp (slots.advance stamp p.slot))
    chunk_says from (chunks.Grant given) may =
        or_says (first_of (other_epoch h given.stamp.epoch ∷ check_grant given.stamp p.slot ∷ [])) unanswered (cond (is_held given.stamp p.lease) (sending []) (takes given (take_lease given.stamp p.slot))) (λ e. tt)
        (either_says (is_held given.stamp p.lease) (sending []) (takes given (take_lease given.stamp p.slot)) tt (takes_says given (take_lease given.stamp p.slot)))
    chunk_says from (chunks.Renewed stamp end) may = or_says (unless_leased stamp p.slot p.lease) unanswered (goes_on (renews end) (λ l. []) p.lease) (λ e. tt) (goes_on_says (renews end) (λ l. []) p.lease (λ l. tt))
    chunk_says from (chunks.Edit req stamp op) may =
        let bytes : List ℕ = bytes_or_none (bytes_of op None h.pushed) in
        done_says (may refl) req (done_in p.slot.live req.client.0) (unless_kept h req h.refused (new_edit h p req stamp op))
        (kept_says req h.refused (new_edit h p req stamp op)
        (or_says (unless_numbered h p stamp op) (refused_edit h p req) (numbers_or_passes h p req op bytes p.slot.live p.lease) (refused_edit_says req) (numbered_says (may refl) req op bytes p.slot.live p.lease)))
    chunk_says from (chunks.Forward stamp number req op carried) may =
        or_says (first_of (unless_live p.slot.live ∷ unless_promised stamp p.slot ∷ [])) (declines h p from stamp) (edits.takes h p from stamp number req op (bytes_of op carried h.pushed) p.slot.live) (declines_says from stamp)
        (forwarded_says from stamp number req op (bytes_of op carried h.pushed) p.slot.live)
    chunk_says from (chunks.Ack stamp count) may = from_says from (λ server. holding.ack h p server stamp count) (λ server.
        or_says (unless_leased stamp p.slot p.lease) unanswered (goes_on (λ l. settled (hears server count l)) (λ l. dones h.me (hears server count l)) p.lease) (λ e. tt)
        (goes_on_says (λ l. settled (hears server count l)) (λ l. dones h.me (hears server count l)) p.lease (λ l. dones_sent (may refl) (filter _ l.outbox))))
    chunk_says from (chunks.Nack stamp refusal) may = from_says from (λ server. holding.nack h p server stamp refusal) (λ server.
        or_says (unless_leased stamp p.slot p.lease) unanswered (supplies_to h refusal server p.lease) (λ e. tt) (supplies_says refusal server p.lease))
    chunk_says from (chunks.Fetch req stamp epoch asked) may =
        or_says (other_epoch h epoch) (fetching.refuses h p req) (fetching.gives h p req (fetching.given stamp asked p.slot)) (λ e. (tt, bad_sent p.slot (damaged_block e))) (gives_says req (fetching.given stamp asked p.slot))
    chunk_says from (chunks.CopyOut stamp target with_sealed) may =
        or_says (other_epoch h stamp.epoch) (messages.unpromised h p stamp) (messages.sends_copy h p stamp target (moves.copy_out stamp with_sealed p.slot)) (unpromised_says stamp) (sends_says stamp target (moves.copy_out stamp with_sealed p.slot))
    chunk_says from (chunks.CopyIn stamp image sealed) may =
        or_says (other_epoch h stamp.epoch) (messages.unpromised h p stamp) (messages.promises h p stamp (moves.copy_in h.block h.chunk stamp image sealed p.slot)) (unpromised_says stamp)
        (promises_says stamp (moves.copy_in h.block h.chunk stamp image sealed p.slot))
    chunk_says from (chunks.Drop epoch promise) may = or_says (other_epoch h epoch) unanswered (messages.drops (slots.drop_replica promise p.slot)) (λ e. tt) (drops_says (slots.drop_replica promise p.slot))
    chunk_says from (chunks.Promised stamp count carried) may = tt
    chunk_says from (chunks.Unpromised stamp refusal) may = tt
    chunk_says from (chunks.Renew stamp) may = tt
    chunk_says from (chunks.Bad stamp) may = tt

-- what is about another chunk says nothing of this one
body_tells : (c : Setting) (chunk : ℕ) (w : ChunkWorld) (from to : NodeId) (handle : ℕ) (body : Body) → (tells : Bool) → (handle ≡ chunk → ⊥) → IsOf tells handle body → TellsBody c chunk w from to body
body_tells c chunk w from to handle (bodies.About other said) tells apart is = λ same. elim (apart (subst (λ n. n ≡ chunk) is.0 same)) [ ]
body_tells c chunk w from to handle (bodies.Push req bytes) tells apart is = elim is [ ]
body_tells c chunk w from to handle (bodies.Report epoch replicas) tells apart is = elim is [ ]
body_tells c chunk w from to handle (bodies.Learned epoch handles) tells apart is = elim is [ ]
body_tells c chunk w from to handle (bodies.Epoch epoch end) tells apart is = elim is [ ]
body_tells c chunk w from to handle (bodies.MakeCopy old at new stamp) tells apart is = elim is [ ]
body_tells c chunk w from to handle (bodies.Call req call) tells apart is = elim is [ ]
body_tells c chunk w from to handle (bodies.Reply req result) tells apart is = elim is [ ]
body_tells c chunk w from to handle (bodies.Done req (Ok outcome)) tells apart is = tt
body_tells c chunk w from to handle (bodies.Done req (Err e)) tells apart is = tt
body_tells c chunk w from to handle (bodies.Bytes req result) tells apart is = tt
body_tells c chunk w from to handle (bodies.Behind epoch) tells apart is = tt

pub elsewhere : (c : Setting) (chunk : ℕ) (w : ChunkWorld) (handle : ℕ) (tells : Bool) (sent : List Message) → (handle ≡ chunk → ⊥) → AllByRecursion (λ (m : Message). IsOf tells handle m.body) sent → AllByRecursion (ServersTell c chunk w) sent
elsewhere c chunk w handle tells [] apart all = tt
elsewhere c chunk w handle tells (m ∷ sent) apart all = (body_tells c chunk w m.from m.to handle m.body tells apart all.0, elsewhere c chunk w handle tells sent apart all.1)

-- ---- what tells nobody that an edit is done

quiet_body : (handle : ℕ) (body : Body) → IsOf false handle body → NoYes body
quiet_body handle (bodies.About other said) is = tt
quiet_body handle (bodies.Push req bytes) is = tt
quiet_body handle (bodies.Report epoch replicas) is = tt
quiet_body handle (bodies.Learned epoch handles) is = tt
quiet_body handle (bodies.Epoch epoch end) is = tt
quiet_body handle (bodies.MakeCopy old at new stamp) is = tt
quiet_body handle (bodies.Call req call) is = tt
quiet_body handle (bodies.Reply req result) is = tt
quiet_body handle (bodies.Done req (Ok outcome)) is = absurd (cc)
quiet_body handle (bodies.Done req (Err e)) is = tt
quiet_body handle (bodies.Bytes req result) is = tt
quiet_body handle (bodies.Behind epoch) is = tt

-- none of these does
abbrev pub NoYeses : List Message → Type 0
NoYeses sent = AllByRecursion (λ (m : Message). NoYes m.body) sent

pub quiet_sent : (handle : ℕ) (sent : List Message) → AllByRecursion (λ (m : Message). IsOf false handle m.body) sent → NoYeses sent
quiet_sent handle [] all = tt
quiet_sent handle (m ∷ sent) all = (quiet_body handle m.body all.0, quiet_sent handle sent all.1)

body_answers : (cause : Cause) (c : Setting) (w : ChunkWorld) (me : ℕ) (body : Body) → NoYes body → AnswersBody cause c w me body
body_answers cause c w me (bodies.About other said) is = tt
body_answers cause c w me (bodies.Push req bytes) is = tt
body_answers cause c w me (bodies.Report epoch replicas) is = tt
body_answers cause c w me (bodies.Learned epoch handles) is = tt
body_answers cause c w me (bodies.Epoch epoch end) is = tt
body_answers cause c w me (bodies.MakeCopy old at new stamp) is = tt
body_answers cause c w me (bodies.Call req call) is = tt
body_answers cause c w me (bodies.Reply req result) is = tt
body_answers cause c w me (bodies.Done req (Ok outcome)) is = elim is [ ]
body_answers cause c w me (bodies.Done req (Err e)) is = tt
body_answers cause c w me (bodies.Bytes req result) is = tt
body_answers cause c w me (bodies.Behind epoch) is = tt

pub quiet_answers : (cause : Cause) (c : Setting) (w : ChunkWorld) (me : ℕ) (sent : List Message) → NoYeses sent → AllByRecursion (AnswersEdit cause c w me) sent
quiet_answers cause c w me [] all = tt
quiet_answers cause c w me (m ∷ sent) all = (body_answers cause c w me m.body all.0, quiet_answers cause c w me sent all.1)

-- ---- what servers say

body_by : (tells : Bool) (handle : ℕ) (body : Body) → IsOf tells handle body → IsByServer body
body_by tells handle (bodies.About other said) is = is.1
body_by tells handle (bodies.Push req bytes) is = elim is [ ]
body_by tells handle (bodies.Report epoch replicas) is = tt
body_by tells handle (bodies.Learned epoch handles) is = tt
body_by tells handle (bodies.Epoch epoch end) is = elim is [ ]
body_by tells handle (bodies.MakeCopy old at new stamp) is = elim is [ ]
body_by tells handle (bodies.Call req call) is = elim is [ ]
body_by tells handle (bodies.Reply req result) is = elim is [ ]
body_by tells handle (bodies.Done req result) is = tt
body_by tells handle (bodies.Bytes req result) is = tt
body_by tells handle (bodies.Behind epoch) is = tt

abbrev pub ByServer : List Message → Type 0
ByServer sent = AllByRecursion (λ (m : Message). IsByServer m.body) sent

pub by_server : (tells : Bool) (handle : ℕ) (sent : List Message) → AllByRecursion (λ (m : Message). IsOf tells handle m.body) sent → ByServer sent
by_server tells handle [] all = tt
by_server tells handle (m ∷ sent) all = (body_by tells handle m.body all.0, by_server tells handle sent all.1)

-- ---- as the chunk that is heard of says it

module _ (cause : Cause) (c : Setting) (chunk : ℕ) (w : ChunkWorld) (me : ℕ) where
  pub own_in : (handle : ℕ) (sent : List Message) → ByServer sent → (handle ≡ chunk → AllByRecursion (AnswersEdit cause c w me) sent) → AllByRecursion (AnswersOf cause c chunk w me (Some handle)) sent
  own_in handle [] by all = tt
  own_in handle (m ∷ sent) by all = ((by.0, λ same. (all same).0), own_in handle sent by.1 (λ same. (all same).1))

  pub none_in : (sent : List Message) → ByServer sent → NoYeses sent → AllByRecursion (AnswersOf cause c chunk w me None) sent
  none_in [] by all = tt
  none_in (m ∷ sent) by all = ((by.0, all.0), none_in sent by.1 all.1)

  pub apart_in : (handle : ℕ) (sent : List Message) → ByServer sent → (handle ≡ chunk → ⊥) → AllByRecursion (AnswersOf cause c chunk w me (Some handle)) sent
  apart_in handle sent by apart = own_in handle sent by (λ same. elim (apart same) [ ])
