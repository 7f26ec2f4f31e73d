-- A server waits for requests that ask for an edit of the chunk under whose lease they wait, and tells yes to no others.
use Rattle.std.proofs.Common.{◌≡◌, ⊎_elim, inl, inr, ◌+◌, ℕ, Bool, true, false, cond, List, [], ◌∷◌, length, filter, Option, Some, None, refl, sym, ap, subst, slice_get, arith}
use Rattle.std.specs.Prelude.{Result, Ok, Err, ◌==◌, nat_le, nat_lt, is_some, not}
use Rattle.std.specs.FinMap as fin
use Rattle.std.specs.List.{AllByRecursion}
use Rattle.std.specs.Ordering.{nat_cmp}
use Rattle.std.proofs.lemmas.Bool.Decides.{nat_tests}
use Rattle.gs_base.specs.Stamps.{is_same}
use Rattle.gs_base.specs.declared.epoch.EpochEnd.{EpochEnd}
use Rattle.gs_base.specs.declared.epoch.EpochEnd.TheVariants as ends
use Rattle.gs_base.specs.declared.numbers.Moment.{Moment}
use Rattle.gs_base.specs.declared.numbers.ReqId.{ReqId}
use Rattle.gs_base.specs.declared.numbers.Stamp.{Stamp}
use Rattle.gs_base.specs.declared.refusal.Refusal.{Refusal}
use Rattle.gs_base.specs.declared.refusal.Refusal.TheVariants as refusals
use Rattle.gs_lease.specs.declared.held.Grant.{Grant}
use Rattle.gs_replica.specs.Copies.{Image, SealedImage}
use Rattle.gs_replica.specs.declared.op.Done.{Done}
use Rattle.gs_replica.specs.declared.op.EditOutcome.TheVariants.{Padded}
use Rattle.gs_msg.specs.Ops.{in_replica}
use Rattle.gs_msg.specs.declared.body.Body.{Body}
use Rattle.gs_msg.specs.declared.body.Body.TheVariants as bodies
use Rattle.gs_msg.specs.declared.body.Given.{Given}
use Rattle.gs_msg.specs.declared.chunk.Chunk.{Chunk}
use Rattle.gs_msg.specs.declared.chunk.Chunk.TheVariants as chunks
use Rattle.gs_msg.specs.declared.event.DiskId.{DiskId}
use Rattle.gs_msg.specs.declared.message.Message.{Message}
use Rattle.gs_msg.specs.declared.node.NodeId.{NodeId}
use Rattle.gs_msg.specs.declared.node.NodeId.TheVariants as nodes
use Rattle.gs_msg.specs.declared.op.Op.{Op}
use Rattle.gs_server_lease.specs.declared.lease.Open.{Open}
use Rattle.gs_server_lease.specs.Leases.{PrimaryLease, done_at_once, done_of, dones, forward_of, forwards, hears, is_acknowledged, opens_edit, renews, settled, tell, waits_for}
use Rattle.gs_server_lease.specs.Numbering.{numbered_op, is_passed}
use Rattle.gs_store.specs.Moves as moves
use Rattle.gs_store.specs.Serving.{apply, done_in}
use Rattle.gs_store.specs.Slots.{Live, Slot, check_grant, first_of, take_lease, unless_live, unless_promised}
use Rattle.gs_store.specs.Slots as slots
use Rattle.gs_store.specs.Stores.{Store}
use Rattle.gs_store.specs.Stores as stores
use Rattle.gs_server.specs.Edits.{acknowledges, bytes_of, bytes_or_none, declines, edit, is_known_of_all, new_edit, numbers, numbers_as, numbers_if, numbers_or_passes, opened, refused_edit, refused_once, repeated, takes_if, takes_next, unless_done, unless_kept, unless_next, unless_numbered}
use Rattle.gs_server.specs.Edits as edits
use Rattle.gs_server.specs.Fetches as fetching
use Rattle.gs_server.specs.Holding.{from_server, goes_on, is_held, supplies_to, takes, unless_leased}
use Rattle.gs_server.specs.Holding as holding
use Rattle.gs_server.specs.Places.{Here, Part, Place, damaged_block, lease_after, of_promise, or_else, other_epoch, sending, tells_bad, unanswered}
use Rattle.gs_server.specs.Places as places
use Rattle.gs_server.specs.Promises as messages
use Rattle.gs_server.specs.Runs.{unless_refused}
use Rattle.gs_server.specs.Servers.{Server, about_chunk, change_slot, handle_body, here_of, in_store, learned, leases_after, place_of, request_in, stands_at, store_of, with_leases, with_store}
use Rattle.gs_server.specs.Servers as servers
use Rattle.gs_server.specs.declared.turn.KeptRefusal.{KeptRefusal}
use Rattle.gs_server.proofs.Happening.{own_place}
use Rattle.gs_nodes.specs.declared.place.MasterPlace.{MasterPlace}
use Rattle.gs_base.specs.declared.config.Config.{Config}
use Rattle.gs_nodes.specs.Nodes.{Nodes}
use Rattle.gs_world.specs.Histories.{Begins, History}
use Rattle.gs_world.specs.Runs.{Step}
use Rattle.gs_world.specs.Sent.{Sent}
use Rattle.gs_laws_parts.specs.server.Answering.{NoYes, handle_in}
use Rattle.gs_laws_parts.specs.server.Requests.{Asked, IsOfOneEdit}
use Rattle.gs_laws_parts.proofs.lemmas.server.Elsewhere.{NoYeses, chunk_says, quiet_sent}
use Rattle.gs_laws_parts.proofs.lemmas.server.Lists.{all_append, all_mapped, in_filter, inserted_cases, nil_contains}
use Rattle.gs_laws_parts.proofs.lemmas.server.Steps.{other_place}
use Rattle.gs_laws_parts.proofs.lemmas.server.Ticks.{eq_same}
use Rattle.gs_laws_lift.specs.stores.Going.{AllSent, Beats, Damages, Elsewhere, Hears, Kind, Loses, OfMaster, OfServer, Restarts, ServerGoes, Ticks, about_of}
use Rattle.gs_laws_lift.specs.stores.Waiting.{AllWaitFor, AsksFor, OutboxAsks, WaitsFor, WaitsGoOn}
use Rattle.gs_laws_lift.proofs.lemmas.stores.Beginning.{silent_at}
use Rattle.gs_laws_lift.proofs.lemmas.stores.Numbered.{named_under}
use Rattle.gs_laws_lift.proofs.lemmas.stores.Posting.{sent_then}
use Rattle.gs_laws_lift.proofs.lemmas.stores.Serving.{set_cases}

-- who is told yes has asked so
abbrev pub YesAsks : (ReqId → Type 0) → Body → Type 0
YesAsks Asks (bodies.Done req (Ok outcome)) = Asks req
YesAsks Asks body = Unit {0}

abbrev pub YesesAsk : (ReqId → Type 0) → List Message → Type 0
YesesAsk Asks messages = AllByRecursion (λ (m : Message). YesAsks Asks m.body) messages

-- where nobody is told yes
pub none_yes : (Asks : ReqId → Type 0) (messages : List Message) → NoYeses messages → YesesAsk Asks messages
none_yes Asks [] none = tt
none_yes Asks (m ∷ messages) none = (by_body m.body none.0, none_yes Asks messages none.1)
  where
    by_body : (body : Body) → NoYes body → YesAsks Asks body
    by_body (bodies.Done req (Ok outcome)) none = absurd none
    by_body body none = tt

-- ---- a message about the chunk, at its place

module _ (Asks : ReqId → Type 0) (h : Here) (p : Place) (waits : OutboxAsks Asks p.lease) where
  -- what waits behind it
  abbrev K : Part → Type 0
  K part = OutboxAsks Asks (lease_after p.lease part.lease)

  or_keeps : (o : Option Refusal) (refuses : Refusal → Part) (part : Part) → ((e : Refusal) → K (refuses e)) → K part → K (or_else o refuses part)
  or_keeps None refuses part each keeps = keeps
  or_keeps (Some e) refuses part each keeps = each e

  either_keeps : (test : Bool) (x y : Part) → K x → K y → K (cond test x y)
  either_keeps true x y first second = first
  either_keeps false x y first second = second

  promising_keeps : (promise : Stamp) (o : Option PrimaryLease) → OutboxAsks Asks o → OutboxAsks Asks (lease_after o (of_promise promise o))
  promising_keeps promise None asks = tt
  promising_keeps promise (Some l) asks = by_same (is_same l.grant.stamp promise)
    where
      by_same : (b : Bool) → OutboxAsks Asks (lease_after (Some l) (cond b places.LeaseStays places.LeaseSpent))
      by_same true = asks
      by_same false = tt

  promises_keep : (stamp : Stamp) (m : Result Slot Refusal) → K (messages.promises h p stamp m)
  promises_keep stamp (Ok s) = promising_keeps s.promise p.lease waits
  promises_keep stamp (Err e) = waits

  sends_keep : (stamp : Stamp) (target : ℕ) (m : Result (Image × Option SealedImage) Refusal) → K (messages.sends_copy h p stamp target m)
  sends_keep stamp target (Ok copy) = waits
  sends_keep stamp target (Err e) = waits

  drops_keep : (m : Result Slot Refusal) → K (messages.drops m)
  drops_keep (Ok s) = tt
  drops_keep (Err e) = waits

  takes_keep : (given : Grant) (m : Result Slot Refusal) → K (takes given m)
  takes_keep given (Ok s) = λ number edit there. nil_contains (entry number edit) there
    where
      entry : ℕ → Open → ℕ × Open
      entry number edit = (number, edit)
  takes_keep given (Err e) = waits

  goes_keep : (next : PrimaryLease → PrimaryLease) (sent : PrimaryLease → List Message) (o : Option PrimaryLease) → OutboxAsks Asks o → ((l : PrimaryLease) → OutboxAsks Asks (Some l) → OutboxAsks Asks (Some (next l))) → K (goes_on next sent o)
  goes_keep next sent None asks keeps = waits
  goes_keep next sent (Some l) asks keeps = keeps l asks

  supplies_keep : (e : Refusal) (server : ℕ) (o : Option PrimaryLease) → K (supplies_to h e server o)
  supplies_keep e server None = waits
  supplies_keep e server (Some l) = waits

  gives_keep : (req : ReqId) (m : Result Given Refusal) → K (fetching.gives h p req m)
  gives_keep req (Ok found) = waits
  gives_keep req (Err e) = waits

  from_keeps : (from : NodeId) (part : ℕ → Part) → ((server : ℕ) → K (part server)) → K (from_server from part)
  from_keeps (nodes.Server server) part each = each server
  from_keeps nodes.Master part each = waits
  from_keeps (nodes.Client client) part each = waits

  taken_keep : (from : NodeId) (stamp : Stamp) (number : ℕ) (op : Op) (m : Result Slot Refusal) → K (takes_if h p from stamp number op m)
  taken_keep from stamp number op (Ok s) = waits
  taken_keep from stamp number op (Err e) = waits

  forwarded_keep : (from : NodeId) (stamp : Stamp) (number : ℕ) (req : ReqId) (op : Op) (bytes : Option (List ℕ)) (live : Option Live) → K (edits.takes h p from stamp number req op bytes live)
  forwarded_keep from stamp number req op bytes None = waits
  forwarded_keep from stamp number req op bytes (Some live) =
      let count : ℕ = live.replica.held.count in
      either_keeps (nat_le number count) (acknowledges h from stamp count) (takes_next h p from stamp number req op bytes count) waits
      (or_keeps (unless_next count number bytes) (declines h p from stamp) (takes_if h p from stamp number op (apply stamp number req (in_replica op) (bytes_or_none bytes) p.slot)) (λ e. waits)
      (taken_keep from stamp number op (apply stamp number req (in_replica op) (bytes_or_none bytes) p.slot)))

  -- ---- an edit, of a request that asks so

  module _ (req : ReqId) (asks : Asks req) where
    -- what waits behind it, and who is told yes
    abbrev Both : Part → Type 0
    Both part = K part × YesesAsk Asks part.sent

    bad_yes : (s : Slot) (o : Option ℕ) → YesesAsk Asks (tells_bad h s o)
    bad_yes s None = tt
    bad_yes s (Some block) = (tt, tt)

    either_both : (test : Bool) (x y : Part) → Both x → Both y → Both (cond test x y)
    either_both true x y first second = first
    either_both false x y first second = second

    or_both : (o : Option Refusal) (refuses : Refusal → Part) (part : Part) → ((e : Refusal) → Both (refuses e)) → Both part → Both (or_else o refuses part)
    or_both None refuses part each both = both
    or_both (Some e) refuses part each both = each e

    refused_both : (e : Refusal) → Both (refused_edit h p req e)
    refused_both e = (waits, (tt, bad_yes p.slot (damaged_block e)))

    kept_both : (kept : Option KeptRefusal) (part : Part) → Both part → Both (unless_kept h req kept part)
    kept_both None part both = both
    kept_both (Some kept) part both =
        either_both (nat_lt req.number kept.number) (refused_once h req refusals.Old) (cond (req.number == kept.number) (refused_once h req kept.refusal) part) (waits, (tt, tt))
        (either_both (req.number == kept.number) (refused_once h req kept.refusal) part (waits, (tt, tt)) both)

    done_both : (last : Option Done) (part : Part) → Both part → Both (unless_done h p req last part)
    done_both None part both = both
    done_both (Some last) part both =
        either_both (req.number == last.number) (repeated h p req last.outcome) (cond (nat_lt req.number last.number) (refused_once h req refusals.Old) part)
        (either_both (is_known_of_all req p.slot p.lease) (sending (edits.done h req (Ok last.outcome) ∷ [])) (sending []) (waits, (asks, tt)) (waits, tt))
        (either_both (nat_lt req.number last.number) (refused_once h req refusals.Old) part (waits, (tt, tt)) both)

    forwards_yes : (l : PrimaryLease) (e : ℕ × Open) → YesesAsk Asks (forwards h.me h.handle l e)
    forwards_yes l e = all_mapped (λ (m : Message). YesAsks Asks m.body) (forward_of h.me h.handle l None e) (filter (λ server. not (server == h.me)) l.grant.members) (λ server there. tt)

    opens_keep : (l : PrimaryLease) (number : ℕ) (e : Open) → e.req ≡ req → OutboxAsks Asks (Some l) → OutboxAsks Asks (Some (opens_edit h.me number e l))
    opens_keep l number e same held = by_case (is_acknowledged (hears h.me number l) number)
      where
        by_case : (b : Bool) → OutboxAsks Asks (Some (cond b (hears h.me number l) (waits_for number e (hears h.me number l))))
        by_case true = held
        by_case false = λ n u there. ⊎_elim (λ old. held n u old) (λ new. subst (λ (x : Open). Asks x.req) (sym new.1) (subst Asks (sym same) asks)) (inserted_cases l.outbox number e n u there)

    numbers_both : (s : Slot) (l : PrimaryLease) (number : ℕ) (e : Open) → e.req ≡ req → OutboxAsks Asks (Some l) → Both (numbers h s l number e)
    numbers_both s l number e same held =
        (opens_keep l number e same held, all_append (λ (m : Message). YesAsks Asks m.body) (forwards h.me h.handle l (number, e)) (done_at_once h.me number e l) (forwards_yes l (number, e)) (at_once (is_acknowledged (hears h.me number l) number)))
      where
        at_once : (b : Bool) → YesesAsk Asks (cond b (done_of h.me (number, e) ∷ []) [])
        at_once true = (subst Asks (sym same) asks, tt)
        at_once false = tt

    numbers_if_both : (l : PrimaryLease) (count : ℕ) (op : Op) (bytes : List ℕ) (live : Live) (m : Result Slot Refusal) → OutboxAsks Asks (Some l) → Both (numbers_if h p l count (opened req op bytes live) m)
    numbers_if_both l count op bytes live (Err e) held = refused_both e
    numbers_if_both l count op bytes live (Ok s) held =
        either_both (count == edits.last_count) (refused_edit h p req refusals.Exhausted) (numbers h s l (count + 1) (opened req op bytes live)) (refused_both refusals.Exhausted) (numbers_both s l (count + 1) (opened req op bytes live) refl held)

    numbered_both : (op : Op) (bytes : List ℕ) (live : Option Live) (held : Option PrimaryLease) → OutboxAsks Asks held → Both (numbers_or_passes h p req op bytes live held)
    numbered_both op bytes None held asked = refused_both refusals.NoReplica
    numbered_both op bytes (Some live) None asked = refused_both refusals.NotPrimary
    numbered_both op bytes (Some live) (Some l) asked =
        let said : Op = numbered_op h.chunk (length live.replica.held.chunk.bytes) op in
        let count : ℕ = live.replica.held.count in
        either_both (is_passed h.chunk (length live.replica.held.chunk.bytes) op) (sending (edits.done h req (Ok Padded) ∷ [])) (numbers_as h p live l (opened req said bytes live)) (waits, (asks, tt))
        (numbers_if_both l count said bytes live (apply l.grant.stamp (count + 1) req (in_replica said) (opened req said bytes live).bytes p.slot) asked)

    edit_both : (stamp : Stamp) (op : Op) → Both (edit h p req stamp op)
    edit_both stamp op =
        let bytes : List ℕ = bytes_or_none (bytes_of op None h.pushed) in
        done_both (done_in p.slot.live req.client.0) (unless_kept h req h.refused (new_edit h p req stamp op))
        (kept_both h.refused (new_edit h p req stamp op) (or_both (unless_numbered h p stamp op) (refused_edit h p req) (numbers_or_passes h p req op bytes p.slot.live p.lease) refused_both (numbered_both op bytes p.slot.live p.lease waits)))

  -- ---- any message

  heard_settles : (server count : ℕ) (l : PrimaryLease) → OutboxAsks Asks (Some l) → OutboxAsks Asks (Some (settled (hears server count l)))
  heard_settles server count l held number e there = held number e (in_filter (λ x. not (is_acknowledged (hears server count l) x.0)) l.outbox (number, e) there)

  chunk_keeps : (from : NodeId) (said : Chunk) → ((req : ReqId) (stamp : Stamp) (op : Op) → said ≡ chunks.Edit req stamp op → Asks req) → K (about_chunk h p from said)
  chunk_keeps from (chunks.Create stamp) asks = or_keeps (other_epoch h stamp.epoch) (messages.unpromised h p stamp) (messages.promises h p stamp (slots.create h.block h.chunk stamp p.slot)) (λ e. waits) (promises_keep stamp (slots.create h.block h.chunk stamp p.slot))
  chunk_keeps from (chunks.Advance stamp) asks = or_keeps (other_epoch h stamp.epoch) (messages.unpromised h p stamp) (messages.promises h p stamp (slots.advance stamp p.slot)) (λ e. waits) (promises_keep stamp (slots.advance stamp p.slot))
  chunk_keeps from (chunks.Grant given) asks =
      or_keeps (first_of (other_epoch h given.stamp.epoch ∷ check_grant given.stamp p.slot ∷ [])) unanswered (cond (is_held given.stamp p.lease) (sending []) (takes given (take_lease given.stamp p.slot))) (λ e. waits)
      (either_keeps (is_held given.stamp p.lease) (sending []) (takes given (take_lease given.stamp p.slot)) waits (takes_keep given (take_lease given.stamp p.slot)))
  chunk_keeps from (chunks.Renewed stamp end) asks = or_keeps (unless_leased stamp p.slot p.lease) unanswered (goes_on (renews end) (λ l. []) p.lease) (λ e. waits) (goes_keep (renews end) (λ l. []) p.lease waits (λ l held. held))
  chunk_keeps from (chunks.Edit req stamp op) asks = (edit_both req (asks req stamp op refl) stamp op).0
  chunk_keeps from (chunks.Forward stamp number req op carried) asks = or_keeps (first_of (unless_live p.slot.live ∷ unless_promised stamp p.slot ∷ [])) (declines h p from stamp) (edits.takes h p from stamp number req op (bytes_of op carried h.pushed) p.slot.live) (λ e. waits)
      (forwarded_keep from stamp number req op (bytes_of op carried h.pushed) p.slot.live)
  chunk_keeps from (chunks.Ack stamp count) asks = from_keeps from (λ server. holding.ack h p server stamp count) (λ server.
      or_keeps (unless_leased stamp p.slot p.lease) unanswered (goes_on (λ l. settled (hears server count l)) (λ l. dones h.me (hears server count l)) p.lease) (λ e. waits)
      (goes_keep (λ l. settled (hears server count l)) (λ l. dones h.me (hears server count l)) p.lease waits (heard_settles server count)))
  chunk_keeps from (chunks.Nack stamp refusal) asks = from_keeps from (λ server. holding.nack h p server stamp refusal) (λ server. or_keeps (unless_leased stamp p.slot p.lease) unanswered (supplies_to h refusal server p.lease) (λ e. waits) (supplies_keep refusal server p.lease))
  chunk_keeps from (chunks.Fetch req stamp epoch wanted) asks = or_keeps (other_epoch h epoch) (fetching.refuses h p req) (fetching.gives h p req (fetching.given stamp wanted p.slot)) (λ e. waits) (gives_keep req (fetching.given stamp wanted p.slot))
  chunk_keeps from (chunks.CopyOut stamp target with_sealed) asks = or_keeps (other_epoch h stamp.epoch) (messages.unpromised h p stamp) (messages.sends_copy h p stamp target (moves.copy_out stamp with_sealed p.slot)) (λ e. waits) (sends_keep stamp target (moves.copy_out stamp with_sealed p.slot))
  chunk_keeps from (chunks.CopyIn stamp image sealed) asks = or_keeps (other_epoch h stamp.epoch) (messages.unpromised h p stamp) (messages.promises h p stamp (moves.copy_in h.block h.chunk stamp image sealed p.slot)) (λ e. waits)
      (promises_keep stamp (moves.copy_in h.block h.chunk stamp image sealed p.slot))
  chunk_keeps from (chunks.Drop epoch promise) asks = or_keeps (other_epoch h epoch) unanswered (messages.drops (slots.drop_replica promise p.slot)) (λ e. waits) (drops_keep (slots.drop_replica promise p.slot))
  chunk_keeps from (chunks.Promised stamp count carried) asks = waits
  chunk_keeps from (chunks.Unpromised stamp refusal) asks = waits
  chunk_keeps from (chunks.Renew stamp) asks = waits
  chunk_keeps from (chunks.Bad stamp) asks = waits

  -- who is told yes
  dones_yes : (l : PrimaryLease) → OutboxAsks Asks (Some l) → YesesAsk Asks (dones h.me l)
  dones_yes l held = all_mapped (λ (m : Message). YesAsks Asks m.body) (done_of h.me) (filter (λ e. is_acknowledged l e.0) l.outbox) (λ e there. held e.0 e.1 (in_filter (λ x. is_acknowledged l x.0) l.outbox e there))

  ack_yes : (from : NodeId) (stamp : Stamp) (count : ℕ) → YesesAsk Asks (from_server from (λ server. holding.ack h p server stamp count)).sent
  ack_yes nodes.Master stamp count = tt
  ack_yes (nodes.Client client) stamp count = tt
  ack_yes (nodes.Server server) stamp count = by_refusal (unless_leased stamp p.slot p.lease)
    where
      by_lease : (o : Option PrimaryLease) → OutboxAsks Asks o → YesesAsk Asks (goes_on (λ l. settled (hears server count l)) (λ l. dones h.me (hears server count l)) o).sent
      by_lease None held = tt
      by_lease (Some l) held = dones_yes (hears server count l) held

      by_refusal : (o : Option Refusal) → YesesAsk Asks (or_else o unanswered (goes_on (λ l. settled (hears server count l)) (λ l. dones h.me (hears server count l)) p.lease)).sent
      by_refusal (Some e) = tt
      by_refusal None = by_lease p.lease waits

  chunk_yes : (from : NodeId) (said : Chunk) → ((req : ReqId) (stamp : Stamp) (op : Op) → said ≡ chunks.Edit req stamp op → Asks req) → YesesAsk Asks (about_chunk h p from said).sent
  chunk_yes from (chunks.Edit req stamp op) asks = (edit_both req (asks req stamp op refl) stamp op).1
  chunk_yes from (chunks.Ack stamp count) asks = ack_yes from stamp count
  chunk_yes from said asks = none_yes Asks (about_chunk h p from said).sent (quiet_sent h.handle (about_chunk h p from said).sent (chunk_says h false p from said (λ may. absurd (cc))))

-- ---- a server

eq_self : (n : ℕ) → (n == n) ≡ true
eq_self n = grind (arith, nat_tests)

module _ (Asks : ℕ → ReqId → Type 0) where
  same_outbox : (chunk : ℕ) (a b : Place) → a ≡ b → OutboxAsks (Asks chunk) b.lease → OutboxAsks (Asks chunk) a.lease
  same_outbox chunk a b same held = subst (λ (q : Place). OutboxAsks (Asks chunk) q.lease) (sym same) held

  emptied : (chunk : ℕ) → OutboxAsks (Asks chunk) (let leases : fin.FinMap nat_cmp PrimaryLease = fin.empty in fin.get leases chunk)
  emptied chunk = subst (OutboxAsks (Asks chunk)) (sym (fin.get-empty nat_cmp chunk)) tt

  -- a part is done at a chunk's place
  changed_waits : (s : Server) (handle : ℕ) (req : Option ReqId) (part : Part) → WaitsFor Asks s → OutboxAsks (Asks handle) (lease_after (place_of handle s).lease part.lease) → WaitsFor Asks (servers.changed_by handle req part s)
  changed_waits s handle req part waits keeps chunk = by_case (chunk == handle) refl
    where
      by_case : (b : Bool) → (chunk == handle) ≡ b → OutboxAsks (Asks chunk) (place_of chunk (servers.changed_by handle req part s)).lease
      by_case true is = subst (λ k. OutboxAsks (Asks k) (place_of k (servers.changed_by handle req part s)).lease) (eq_same chunk handle is)
          (same_outbox handle (place_of handle (servers.changed_by handle req part s)) (places.after (place_of handle s) part) (own_place handle req part s) keeps)
      by_case false is = same_outbox chunk (place_of chunk (servers.changed_by handle req part s)) (place_of chunk s) (other_place handle chunk req part s is) (waits chunk)

  -- where an edit of a request about a chunk is heard the request asks so
  abbrev pub HeardAsked : Body → Type 0
  HeardAsked body = (handle : ℕ) (req : ReqId) (stamp : Stamp) (op : Op) → body ≡ bodies.About handle (chunks.Edit req stamp op) → Asks handle req

  copy_waits : (s : Server) (handle new_handle : ℕ) (h new : Here) (stamp : Stamp) (o : Option Refusal) (m : Result Slot Refusal) → WaitsFor Asks s
      → WaitsFor Asks (servers.copies handle new_handle (messages.or_copy o (messages.not_copied h (place_of handle s) new stamp) (messages.copies h (place_of handle s) new (place_of new_handle s) stamp m)) s).after
  copy_waits s handle new_handle h new stamp o m waits = by_made o m
    where
      made : (copying : messages.Copying) → OutboxAsks (Asks new_handle) (lease_after (place_of new_handle s).lease copying.target.lease) → WaitsFor Asks (servers.copies handle new_handle copying s).after
      made copying keeps = changed_waits (with_store (change_slot handle copying.source (store_of s)) s) new_handle None copying.target waits keeps

      by_made : (o : Option Refusal) (m : Result Slot Refusal) → WaitsFor Asks (servers.copies handle new_handle (messages.or_copy o (messages.not_copied h (place_of handle s) new stamp) (messages.copies h (place_of handle s) new (place_of new_handle s) stamp m)) s).after
      by_made (Some e) m = made (messages.not_copied h (place_of handle s) new stamp e) (waits new_handle)
      by_made None (Err e) = made (messages.not_copied h (place_of handle s) new stamp e) (waits new_handle)
      by_made None (Ok t) = made (messages.copies h (place_of handle s) new (place_of new_handle s) stamp (Ok t)) (promising_keeps (Asks new_handle) new (place_of new_handle s) (waits new_handle) t.promise (place_of new_handle s).lease (waits new_handle))

  ended_waits : (s : Server) (end : EpochEnd) (t : Store) → WaitsFor Asks s → WaitsFor Asks (with_leases (leases_after end s.dropped.leases) (with_store t s))
  ended_waits s ends.Rollback t waits chunk = emptied chunk
  ended_waits s ends.Prepare t waits chunk = waits chunk
  ended_waits s ends.Finalize t waits chunk = waits chunk

  learn_waits : (s : Server) (epoch : ℕ) (end : EpochEnd) → WaitsFor Asks s → WaitsFor Asks (servers.learn s epoch end).after
  learn_waits s epoch end waits = by_case (epoch == s.kept.epoch) (epoch == s.kept.epoch + 1)
    where
      by_case : (a b : Bool) → WaitsFor Asks (cond a (learned s epoch end s) (cond b (learned s epoch end (with_leases (leases_after end s.dropped.leases) (with_store (stores.learned epoch end (store_of s)) s)))
          (record { after = s; sent = tell s.me nodes.Master (bodies.Behind s.kept.epoch) ∷ []; said = Some (refusals.Epoch s.kept.epoch) }))).after
      by_case true b = waits
      by_case false true = ended_waits s end (stores.learned epoch end (store_of s)) waits
      by_case false false = waits

  body_waits : (s : Server) (from : NodeId) (body : Body) (moment : Moment) → HeardAsked body → WaitsFor Asks s → WaitsFor Asks (handle_body s from body moment).after
  body_waits s from (bodies.About handle said) moment heard waits =
      let h : Here = here_of s moment handle (request_in said) in
      changed_waits s handle (request_in said) (about_chunk h (place_of handle s) from said) waits
      (chunk_keeps (Asks handle) h (place_of handle s) (waits handle) from said (λ req stamp op is. heard handle req stamp op (ap (bodies.About handle) is)))
  body_waits s from (bodies.Push req bytes) moment heard waits = waits
  body_waits s from (bodies.MakeCopy handle at new_handle stamp) moment heard waits =
      let h : Here = here_of s moment handle None in
      copy_waits s handle new_handle h (here_of s moment new_handle None) stamp (other_epoch h stamp.epoch) (moves.make_copy at stamp (place_of handle s).slot (place_of new_handle s).slot) waits
  body_waits s from (bodies.Epoch epoch end) moment heard waits = learn_waits s epoch end waits
  body_waits s from (bodies.Call req call) moment heard waits = waits
  body_waits s from (bodies.Reply req result) moment heard waits = waits
  body_waits s from (bodies.Done req result) moment heard waits = waits
  body_waits s from (bodies.Bytes req result) moment heard waits = waits
  body_waits s from (bodies.Report epoch replicas) moment heard waits = waits
  body_waits s from (bodies.Learned epoch handles) moment heard waits = waits
  body_waits s from (bodies.Behind epoch) moment heard waits = waits

  tick_waits : (s : Server) (moment : Moment) → WaitsFor Asks s → WaitsFor Asks (servers.tick s moment).after
  tick_waits s moment waits chunk =
      let test = λ (handle : ℕ). stands_at moment (fin.get s.dropped.leases handle) in
      subst (OutboxAsks (Asks chunk)) (sym (fin.get-retain_keys s.dropped.leases test chunk (λ y e. ap test (sym (fin.nat_cmp-IsAntisymmetric chunk y e))))) (by_test (test chunk))
    where
      by_test : (b : Bool) → OutboxAsks (Asks chunk) (cond b (fin.get s.dropped.leases chunk) None)
      by_test true = waits chunk
      by_test false = tt

  struck_waits : (s : Server) (m : Result Store Refusal) → WaitsFor Asks s → WaitsFor Asks (unless_refused s (in_store s m))
  struck_waits s (Ok t) waits = waits
  struck_waits s (Err e) waits = waits

  goes_waits : (sent : Sent) (id : ℕ) (s after : Server) (messages : List Message) → ServerGoes sent id s after messages → AllSent (λ (m : Message). HeardAsked m.body) sent → WaitsFor Asks s → WaitsFor Asks after
  goes_waits sent id s after messages (Hears message moment was to is sends) heard waits = subst (WaitsFor Asks) (sym is) (body_waits s message.from message.body moment (heard was.0 message was.1) waits)
  goes_waits sent id s after messages (Ticks moment is sends) heard waits = subst (WaitsFor Asks) (sym is) (tick_waits s moment waits)
  goes_waits sent id s after messages (Beats is sends) heard waits = subst (WaitsFor Asks) (sym is) waits
  goes_waits sent id s after messages (Restarts is sends) heard waits = subst (WaitsFor Asks) (sym is) (λ chunk. emptied chunk)
  goes_waits sent id s after messages (Loses handle is sends) heard waits = subst (WaitsFor Asks) (sym is) (struck_waits s (stores.lose handle (store_of s)) waits)
  goes_waits sent id s after messages (Damages handle block is sends) heard waits = subst (WaitsFor Asks) (sym is) (struck_waits s (stores.damage handle block (store_of s)) waits)

  -- a client that is told yes by a server that hears about a chunk has asked for an edit of that chunk
  pub yeses_for : (sent : Sent) (id : ℕ) (s after : Server) (messages : List Message) (goes : ServerGoes sent id s after messages) (chunk : ℕ) → AllSent (λ (m : Message). HeardAsked m.body) sent → WaitsFor Asks s → about_of goes ≡ Some chunk → YesesAsk (Asks chunk) messages
  yeses_for sent id s after messages (Hears message moment was to is sends) chunk heard waits about = subst (YesesAsk (Asks chunk)) (sym sends) (by_body message.body (heard was.0 message was.1) about)
    where
      by_body : (body : Body) → HeardAsked body → handle_in body ≡ Some chunk → YesesAsk (Asks chunk) (handle_body s message.from body moment).sent
      by_body (bodies.About handle said) heard about =
          let same : handle ≡ chunk = cc in
          subst (λ k. YesesAsk (Asks k) (handle_body s message.from (bodies.About handle said) moment).sent) same
          (chunk_yes (Asks handle) (here_of s moment handle (request_in said)) (place_of handle s) (waits handle) message.from said (λ req stamp op is. heard handle req stamp op (ap (bodies.About handle) is)))
      by_body body heard about = absurd (cc)
  yeses_for sent id s after messages (Ticks moment is sends) chunk heard waits about = absurd (cc)
  yeses_for sent id s after messages (Beats is sends) chunk heard waits about = absurd (cc)
  yeses_for sent id s after messages (Restarts is sends) chunk heard waits about = absurd (cc)
  yeses_for sent id s after messages (Loses handle is sends) chunk heard waits about = absurd (cc)
  yeses_for sent id s after messages (Damages handle block is sends) chunk heard waits about = absurd (cc)

-- all that was sent for a request is of its one edit
module _ (asked : ℕ → Asked) where
  heard_asks : (m : Message) → IsOfOneEdit asked m → HeardAsked (AsksFor asked) m.body
  heard_asks m one handle req stamp op said = ap is_some (named_under asked handle m one handle req stamp op said (eq_self handle))

  all_heard : (sent : Sent) → AllSent (IsOfOneEdit asked) sent → AllSent (λ (m : Message). HeardAsked (AsksFor asked) m.body) sent
  all_heard sent one = sent_then (IsOfOneEdit asked) (λ (m : Message). HeardAsked (AsksFor asked) m.body) sent heard_asks one

  pub yeses_asked : (sent : Sent) (id : ℕ) (s after : Server) (messages : List Message) (goes : ServerGoes sent id s after messages) (chunk : ℕ) → AllSent (IsOfOneEdit asked) sent → WaitsFor (AsksFor asked) s → about_of goes ≡ Some chunk → YesesAsk (AsksFor asked chunk) messages
  yeses_asked sent id s after messages goes chunk one waits about = yeses_for (AsksFor asked) sent id s after messages goes chunk (all_heard sent one) waits about

-- it stays so at each step at which what is heard asks so
pub waits_go : {D : Type 0} (seen : D → List ℕ) (failures : D → ℕ) (armed : DiskId → ℕ → MasterPlace D → MasterPlace D) (Asks : ℕ → ReqId → Type 0) (step : Step) (old new : History D) → Kind seen failures armed step old new → AllSent (λ (m : Message). HeardAsked Asks m.body) old.sent
    → AllWaitFor Asks old → AllWaitFor Asks new
waits_go seen failures armed Asks step old new (OfServer id s after messages moment found goes met servers master posted) heard waits j x at =
    elim (set_cases old.nodes.servers id j after x (subst (λ xs. slice_get xs j ≡ Some x) servers at)) [
      | inl here ↦ subst (WaitsFor Asks) (sym here.1) (goes_waits Asks old.sent id s after messages goes heard (waits id s found))
      | inr there ↦ waits j x there.1
    ]
waits_go seen failures armed Asks step old new (OfMaster place messages moment goes servers master posted) heard waits j x at = waits j x (subst (λ xs. slice_get xs j ≡ Some x) servers at)
waits_go seen failures armed Asks step old new (Elsewhere by messages moment are servers master posted) heard waits j x at = waits j x (subst (λ xs. slice_get xs j ≡ Some x) servers at)

pub waits_go_on : {D : Type 0} (seen : D → List ℕ) (failures : D → ℕ) (armed : DiskId → ℕ → MasterPlace D → MasterPlace D) (asked : ℕ → Asked) → WaitsGoOn seen failures armed asked
waits_go_on seen failures armed asked step old new kind one waits = waits_go seen failures armed (AsksFor asked) step old new kind (all_heard asked old.sent one) waits

-- when a store begins new no server waits
pub waits_begin : {D : Type 0} (seen : D → List ℕ) (failures : D → ℕ) (armed : DiskId → ℕ → MasterPlace D → MasterPlace D) (config : Config) (clients : ℕ) (disks : D × D) (new : History D) (Asks : ℕ → ReqId → Type 0) → Begins seen failures armed config clients disks new → AllWaitFor Asks new
waits_begin seen failures armed config clients disks new Asks begun id s found chunk =
    subst (λ (x : Server). OutboxAsks (Asks chunk) (place_of chunk x).lease) (sym (silent_at config config.servers id s (subst (λ (n : Nodes _). slice_get n.servers id ≡ Some s) begun.nodes found))) (emptied Asks chunk)
