-- A chunkserver: what it keeps, and what it does at each event.
use Rattle.std.specs.Prelude.{◌≡◌, ℕ, ◌+◌, ◌==◌, not, cond, Bool, true, false, List, [], ◌∷◌, map, flat_map, Option, Some, None, Result, Ok, Err, refl}
use Rattle.std.specs.Coded.{Coded, code_by, coded×, coded_ℕ}
use Rattle.std.specs.FinMap as fin
use Rattle.std.specs.Ordering.{nat_cmp, on}
use Rattle.std.specs.declared.cmp.Ordering.{Ordering}
use Rattle.gs_base.specs.declared.numbers.ClientId.{ClientId}
use Rattle.gs_base.specs.contracts.numbers.ClientId as clients
use Rattle.gs_base.specs.declared.numbers.Moment.{Moment}
use Rattle.gs_base.specs.declared.numbers.Stamp.{Stamp}
use Rattle.gs_base.specs.declared.numbers.ReqId.{ReqId}
use Rattle.gs_base.specs.declared.epoch.EpochEnd.{EpochEnd}
use Rattle.gs_base.specs.declared.epoch.EpochEnd.TheVariants.{Prepare, Finalize, Rollback}
use Rattle.gs_base.specs.declared.refusal.Refusal.{Refusal}
use Rattle.gs_base.specs.declared.refusal.Refusal.TheVariants as refusals
use Rattle.gs_store.specs.declared.report.ReplicaReport.{ReplicaReport}
use Rattle.gs_store.specs.Slots.{Slot, coded_slot}
use Rattle.gs_store.specs.Buffers.{Pushes, coded_pushes, pushed, without}
use Rattle.gs_store.specs.Stores.{Store, slot_of, with_slot, mark_bad, with_buffer}
use Rattle.gs_store.specs.Stores as stores
use Rattle.gs_msg.specs.declared.node.NodeId.{NodeId}
use Rattle.gs_msg.specs.declared.node.NodeId.TheVariants as nodes
use Rattle.gs_msg.specs.declared.message.Message.{Message}
use Rattle.gs_msg.specs.declared.body.Reported.{Reported}
use Rattle.gs_msg.specs.declared.body.Body.{Body}
use Rattle.gs_msg.specs.declared.body.Body.TheVariants as bodies
use Rattle.gs_msg.specs.declared.chunk.Chunk.{Chunk}
use Rattle.gs_msg.specs.declared.chunk.Chunk.TheVariants as chunks
use Rattle.gs_server.specs.declared.turn.KeptRefusal.{KeptRefusal}
use Rattle.gs_server.specs.declared.turn.Turn.{Turn}
use Rattle.gs_server.specs.contracts.turn.KeptRefusal as kept_refusals
use Rattle.gs_server_lease.specs.Leases.{PrimaryLease, coded_lease, tell, reminds, is_over}
use Rattle.gs_server.specs.Places.{Place, Here, Part, SlotChange, SlotStays, SlotBecomes, SlotMarked, LeaseChange, LeaseStays, LeaseBecomes, LeaseSpent, unanswered}
use Rattle.gs_server.specs.Promises as promises
use Rattle.gs_server.specs.Promises.{Copying}
use Rattle.gs_server.specs.Holding as holding
use Rattle.gs_server.specs.Holding.{from_server}
use Rattle.gs_server.specs.Edits as edits
use Rattle.gs_server.specs.Fetches as fetches

-- the order in which clients are told apart
abbrev pub client_cmp : ClientId → ClientId → Ordering
client_cmp = on (λ (c : ClientId). c.0) nat_cmp

-- What a restart keeps: the epoch, a slot for each handle of which something was heard, and for each client its edit that was
-- refused last.
pub record Kept : Type 0 where
  pub epoch : ℕ
  pub slots : fin.FinMap nat_cmp Slot
  pub refused : fin.FinMap client_cmp KeptRefusal

-- what it drops: the leases that are held, and the bytes that were pushed and are not used
pub record Dropped : Type 0 where
  pub leases : fin.FinMap nat_cmp PrimaryLease
  pub buffer : Pushes

-- which server it is, and the sizes of a block and of a chunk
pub record Server : Type 0 where
  pub me : ℕ
  pub block : ℕ
  pub chunk : ℕ
  pub kept : Kept
  pub dropped : Dropped

abbrev pub coded_kept : Coded Kept
coded_kept =
    code_by (ℕ × (fin.FinMap nat_cmp Slot × fin.FinMap client_cmp KeptRefusal))
    (coded× coded_ℕ (coded× (fin.code coded_ℕ coded_slot) (fin.code clients.the_row.coded kept_refusals.the_row.coded)))
    (λ k. (k.epoch, (k.slots, k.refused))) (λ p. record { epoch = p.0; slots = p.1.0; refused = p.1.1 }) (λ _. refl)

abbrev pub coded_dropped : Coded Dropped
coded_dropped = code_by (fin.FinMap nat_cmp PrimaryLease × Pushes) (coded× (fin.code coded_ℕ coded_lease) coded_pushes) (λ d. (d.leases, d.buffer)) (λ p. record { leases = p.0; buffer = p.1 }) (λ _. refl)

abbrev pub coded_server : Coded Server
coded_server =
    code_by (ℕ × (ℕ × (ℕ × (Kept × Dropped)))) (coded× coded_ℕ (coded× coded_ℕ (coded× coded_ℕ (coded× coded_kept coded_dropped))))
    (λ s. (s.me, (s.block, (s.chunk, (s.kept, s.dropped))))) (λ p. record { me = p.0; block = p.1.0; chunk = p.1.1.0; kept = p.1.1.1.0; dropped = p.1.1.1.1 }) (λ _. refl)

-- a server that has heard nothing
abbrev pub new : ℕ → ℕ → ℕ → Server
new me block chunk = record { me = me; block = block; chunk = chunk; kept = record { epoch = 0; slots = fin.empty; refused = fin.empty }; dropped = record { leases = fin.empty; buffer = [] } }

-- a server of this store and these kept refusals, which holds no lease
abbrev pub of_parts : ℕ → Store → fin.FinMap client_cmp KeptRefusal → Server
of_parts me t refused = record { me = me; block = t.block; chunk = t.chunk; kept = record { epoch = t.epoch; slots = t.slots; refused = refused }; dropped = record { leases = fin.empty; buffer = t.buffer } }

a_new_store_is_of_a_new_server : (me block chunk : ℕ) → of_parts me (stores.new block chunk) fin.empty ≡ new me block chunk
a_new_store_is_of_a_new_server me block chunk = refl

-- ---- its parts

-- what its store has
abbrev pub store_of : Server → Store
store_of s = record { block = s.block; chunk = s.chunk; epoch = s.kept.epoch; slots = s.kept.slots; buffer = s.dropped.buffer }

abbrev pub with_store : Store → Server → Server
with_store t s = record {
  me = s.me;
  block = t.block;
  chunk = t.chunk;
  kept = record { epoch = t.epoch; slots = t.slots; refused = s.kept.refused };
  dropped = record { leases = s.dropped.leases; buffer = t.buffer };
}

abbrev pub with_leases : fin.FinMap nat_cmp PrimaryLease → Server → Server
with_leases leases s = record { me = s.me; block = s.block; chunk = s.chunk; kept = s.kept; dropped = record { leases = leases; buffer = s.dropped.buffer } }

abbrev pub with_refused : fin.FinMap client_cmp KeptRefusal → Server → Server
with_refused refused s = record { me = s.me; block = s.block; chunk = s.chunk; kept = record { epoch = s.kept.epoch; slots = s.kept.slots; refused = refused }; dropped = s.dropped }

-- what is kept of a handle; a handle of which nothing was heard has the empty place
abbrev pub place_of : ℕ → Server → Place
place_of handle s = record { slot = slot_of handle (store_of s); lease = fin.get s.dropped.leases handle }

-- what a message about a chunk finds beside its place; of a request, what is kept of its client and what was pushed for it
abbrev pub refused_in : Server → Option ReqId → Option KeptRefusal
refused_in s None = None
refused_in s (Some req) = fin.get s.kept.refused req.client

abbrev pub pushed_in : Server → Option ReqId → Option (List ℕ)
pushed_in s None = None
pushed_in s (Some req) = pushed req s.dropped.buffer

abbrev pub here_of : Server → Moment → ℕ → Option ReqId → Here
here_of s moment handle req = record { me = s.me; handle = handle; block = s.block; chunk = s.chunk; moment = moment; epoch = s.kept.epoch; refused = refused_in s req; pushed = pushed_in s req }

-- the request of an edit, whose bytes were pushed
abbrev pub request_in : Chunk → Option ReqId
request_in (chunks.Edit req stamp op) = Some req
request_in (chunks.Forward stamp number req op bytes) = Some req
request_in chunk = None

-- ---- what becomes of it

abbrev pub change_slot : ℕ → SlotChange → Store → Store
change_slot handle SlotStays t = t
change_slot handle (SlotBecomes slot) t = with_slot handle slot t
change_slot handle (SlotMarked block) t = mark_bad handle block t

abbrev pub change_lease : ℕ → LeaseChange → fin.FinMap nat_cmp PrimaryLease → fin.FinMap nat_cmp PrimaryLease
change_lease handle LeaseStays leases = leases
change_lease handle (LeaseBecomes l) leases = fin.insert leases handle l
change_lease handle LeaseSpent leases = fin.remove leases handle

-- the bytes of an edit that is applied leave the buffer
abbrev pub change_buffer : Option ReqId → Bool → Store → Store
change_buffer None used t = t
change_buffer (Some req) used t = cond used (with_buffer (without req t.buffer) t) t

abbrev pub keep_refusal : Option ReqId → Option KeptRefusal → fin.FinMap client_cmp KeptRefusal → fin.FinMap client_cmp KeptRefusal
keep_refusal None kept refused = refused
keep_refusal (Some req) None refused = refused
keep_refusal (Some req) (Some kept) refused = fin.insert refused req.client kept

abbrev pub changed_by : ℕ → Option ReqId → Part → Server → Server
changed_by handle req part s =
    with_store (change_buffer req part.used (change_slot handle part.slot (store_of s)))
    (with_leases (change_lease handle part.lease s.dropped.leases)
    (with_refused (keep_refusal req part.kept s.kept.refused) s))

-- What an event comes to: the server afterwards, the messages that it sends, in order, and the refusal with which it met what it
-- was sent.
pub record Step : Type 0 where
  pub after : Server
  pub sent : List Message
  pub said : Option Refusal

-- a call of the code does what an event comes to, or it has no memory, changes nothing and sends nothing
abbrev pub ServerSteps : Step → Result Turn Refusal → Server → Server → Type 0
ServerSteps step (Ok turn) old new = (new ≡ step.after) × (turn.sent.items ≡ step.sent) × (turn.said ≡ step.said)
ServerSteps step (Err e) old new = (e ≡ refusals.Memory) × (new ≡ old)

abbrev pub step_of : ℕ → Option ReqId → Part → Server → Step
step_of handle req part s = record { after = changed_by handle req part s; sent = part.sent; said = part.said }

-- what a server says of a message for another kind of node
abbrev pub stray : Server → Step
stray s = record { after = s; sent = []; said = Some refusals.Stray }

-- ---- messages about one chunk

abbrev pub about_chunk : Here → Place → NodeId → Chunk → Part
about_chunk h p from (chunks.Create stamp) = promises.create h p stamp
about_chunk h p from (chunks.Advance stamp) = promises.advance h p stamp
about_chunk h p from (chunks.Grant grant) = holding.grant h p grant
about_chunk h p from (chunks.Renewed stamp end) = holding.renewed p stamp end
about_chunk h p from (chunks.Edit req stamp op) = edits.edit h p req stamp op
about_chunk h p from (chunks.Forward stamp number req op bytes) = edits.forward h p from stamp number req op bytes
about_chunk h p from (chunks.Ack stamp count) = from_server from (λ server. holding.ack h p server stamp count)
about_chunk h p from (chunks.Nack stamp refusal) = from_server from (λ server. holding.nack h p server stamp refusal)
about_chunk h p from (chunks.Fetch req stamp epoch asked) = fetches.fetch h p req stamp epoch asked
about_chunk h p from (chunks.CopyOut stamp target with_sealed) = promises.copy_out h p stamp target with_sealed
about_chunk h p from (chunks.CopyIn stamp image sealed) = promises.copy_in h p stamp image sealed
about_chunk h p from (chunks.Drop epoch promise) = promises.drop_replica h p epoch promise
about_chunk h p from (chunks.Promised stamp count carried) = unanswered refusals.Stray
about_chunk h p from (chunks.Unpromised stamp refusal) = unanswered refusals.Stray
about_chunk h p from (chunks.Renew stamp) = unanswered refusals.Stray
about_chunk h p from (chunks.Bad stamp) = unanswered refusals.Stray

abbrev pub handle_chunk : Server → NodeId → ℕ → Chunk → Moment → Step
handle_chunk s from handle chunk moment = step_of handle (request_in chunk) (about_chunk (here_of s moment handle (request_in chunk)) (place_of handle s) from chunk) s

-- ---- messages about other things

-- a copy of a chunk under a new handle changes the place of the new one, or marks the old one's replica as bad
abbrev pub copies : ℕ → ℕ → Copying → Server → Step
copies handle new_handle copying s = step_of new_handle None copying.target (with_store (change_slot handle copying.source (store_of s)) s)

abbrev pub make_copy : Server → ℕ → Stamp → ℕ → Stamp → Moment → Step
make_copy s handle at new_handle stamp moment =
    copies handle new_handle (promises.make_copy (here_of s moment handle None) (place_of handle s) at (here_of s moment new_handle None) (place_of new_handle s) stamp) s

abbrev pub push : Server → ReqId → List ℕ → Step
push s req bytes = record { after = with_store (stores.push req bytes (store_of s)) s; sent = []; said = None }

-- a rollback spends every lease
abbrev pub leases_after : EpochEnd → fin.FinMap nat_cmp PrimaryLease → fin.FinMap nat_cmp PrimaryLease
leases_after Rollback leases = fin.empty
leases_after Prepare leases = leases
leases_after Finalize leases = leases

-- what is told of a rollback: the handles whose replicas are as they were sealed
abbrev pub named_at : EpochEnd → ℕ → Store → List ℕ
named_at Rollback epoch t = stores.named epoch t
named_at Prepare epoch t = []
named_at Finalize epoch t = []

abbrev pub learned : Server → ℕ → EpochEnd → Server → Step
learned s epoch end after = record { after = after; sent = tell s.me nodes.Master (bodies.Learned epoch (named_at end epoch (store_of after))) ∷ []; said = None }

-- The epoch that stands is answered again, the next one is gone on to; of any other the master is told which one stands.
abbrev pub learn : Server → ℕ → EpochEnd → Step
learn s epoch end =
    cond (epoch == s.kept.epoch) (learned s epoch end s)
    (cond (epoch == s.kept.epoch + 1) (learned s epoch end (with_leases (leases_after end s.dropped.leases) (with_store (stores.learned epoch end (store_of s)) s)))
    (record { after = s; sent = tell s.me nodes.Master (bodies.Behind s.kept.epoch) ∷ []; said = Some (refusals.Epoch s.kept.epoch) }))

abbrev pub handle_body : Server → NodeId → Body → Moment → Step
handle_body s from (bodies.About handle chunk) moment = handle_chunk s from handle chunk moment
handle_body s from (bodies.Push req bytes) moment = push s req bytes
handle_body s from (bodies.MakeCopy handle at new_handle stamp) moment = make_copy s handle at new_handle stamp moment
handle_body s from (bodies.Epoch epoch end) moment = learn s epoch end
handle_body s from (bodies.Call req call) moment = stray s
handle_body s from (bodies.Reply req result) moment = stray s
handle_body s from (bodies.Done req result) moment = stray s
handle_body s from (bodies.Bytes req result) moment = stray s
handle_body s from (bodies.Report epoch replicas) moment = stray s
handle_body s from (bodies.Learned epoch handles) moment = stray s
handle_body s from (bodies.Behind epoch) moment = stray s

abbrev pub handle : Server → Message → Moment → Step
handle s message moment = handle_body s message.from message.body moment

-- ---- messages that take no memory

abbrev pub is_of_server : NodeId → Bool
is_of_server nodes.Master = false
is_of_server (nodes.Server server) = true
is_of_server (nodes.Client client) = false

-- whether want of memory may leave a message about a chunk unanswered: no drop, no renewal, and nothing that isn't for a server
abbrev pub chunk_takes_memory : NodeId → Chunk → Bool
chunk_takes_memory from (chunks.Create stamp) = true
chunk_takes_memory from (chunks.Advance stamp) = true
chunk_takes_memory from (chunks.Grant grant) = true
chunk_takes_memory from (chunks.Renewed stamp end) = false
chunk_takes_memory from (chunks.Edit req stamp op) = true
chunk_takes_memory from (chunks.Forward stamp number req op bytes) = true
chunk_takes_memory from (chunks.Ack stamp count) = is_of_server from
chunk_takes_memory from (chunks.Nack stamp refusal) = is_of_server from
chunk_takes_memory from (chunks.Fetch req stamp epoch asked) = true
chunk_takes_memory from (chunks.CopyOut stamp target with_sealed) = true
chunk_takes_memory from (chunks.CopyIn stamp image sealed) = true
chunk_takes_memory from (chunks.Drop epoch promise) = false
chunk_takes_memory from (chunks.Promised stamp count carried) = false
chunk_takes_memory from (chunks.Unpromised stamp refusal) = false
chunk_takes_memory from (chunks.Renew stamp) = false
chunk_takes_memory from (chunks.Bad stamp) = false

abbrev pub body_takes_memory : NodeId → Body → Bool
body_takes_memory from (bodies.About handle chunk) = chunk_takes_memory from chunk
body_takes_memory from (bodies.Push req bytes) = true
body_takes_memory from (bodies.MakeCopy handle at new_handle stamp) = true
body_takes_memory from (bodies.Epoch epoch end) = true
body_takes_memory from (bodies.Call req call) = false
body_takes_memory from (bodies.Reply req result) = false
body_takes_memory from (bodies.Done req result) = false
body_takes_memory from (bodies.Bytes req result) = false
body_takes_memory from (bodies.Report epoch replicas) = false
body_takes_memory from (bodies.Learned epoch handles) = false
body_takes_memory from (bodies.Behind epoch) = false

abbrev pub takes_memory : Message → Bool
takes_memory message = body_takes_memory message.from message.body

-- ---- other events

-- leases that are over are spent, and of each other one the edits that wait are sent again
abbrev pub stands_at : Moment → Option PrimaryLease → Bool
stands_at moment None = false
stands_at moment (Some l) = not (is_over moment l)

abbrev pub standing_leases : Moment → fin.FinMap nat_cmp PrimaryLease → fin.FinMap nat_cmp PrimaryLease
standing_leases moment leases = fin.retain_keys leases (λ handle. stands_at moment (fin.get leases handle))

abbrev pub reminds_all : ℕ → Moment → List (ℕ × PrimaryLease) → List Message
reminds_all me moment entries = flat_map (λ e. cond (is_over moment e.1) [] (reminds me e.0 e.1)) entries

abbrev pub tick : Server → Moment → Step
tick s moment = record {
  after = with_leases (standing_leases moment s.dropped.leases) s;
  sent = reminds_all s.me moment (fin.entries s.dropped.leases);
  said = None;
}

-- the live replicas, ascending by handle
abbrev pub reported : ReplicaReport → Reported
reported r = record { handle = r.handle; promise = r.promise; is_bad = r.is_bad }

abbrev pub beat : Server → Message
beat s = tell s.me nodes.Master (bodies.Report s.kept.epoch (map reported (stores.report (store_of s))))

abbrev pub restart : Server → Server
restart s = record { me = s.me; block = s.block; chunk = s.chunk; kept = s.kept; dropped = record { leases = fin.empty; buffer = [] } }

abbrev pub in_store : Server → Result Store Refusal → Result Server Refusal
in_store s (Ok t) = Ok (with_store t s)
in_store s (Err refusal) = Err refusal

-- a loss takes the replicas of a handle, and spends no lease
abbrev pub lose : ℕ → Server → Result Server Refusal
lose handle s = in_store s (stores.lose handle (store_of s))

abbrev pub damage : ℕ → ℕ → Server → Result Server Refusal
damage handle block s = in_store s (stores.damage handle block (store_of s))

-- ---- Worked: a server in epoch 0 that has heard nothing

abbrev fresh : Server
fresh = new 0 4 16

bytes_are_kept_until_they_are_used : (req : ReqId) → (push fresh req (97 ∷ [])).after.dropped.buffer ≡ (req, 97 ∷ []) ∷ []
bytes_are_kept_until_they_are_used req = refl

the_next_epoch : (learn fresh 1 Prepare).after.kept.epoch ≡ 1
the_next_epoch = refl

that_is_answered : (learn fresh 1 Prepare).sent ≡ tell 0 nodes.Master (bodies.Learned 1 []) ∷ []
that_is_answered = refl

answered_again : learn fresh 0 Finalize ≡ record { after = fresh; sent = tell 0 nodes.Master (bodies.Learned 0 []) ∷ []; said = None }
answered_again = refl

one_epoch_at_a_time : learn fresh 2 Rollback ≡ record { after = fresh; sent = tell 0 nodes.Master (bodies.Behind 0) ∷ []; said = Some (refusals.Epoch 0) }
one_epoch_at_a_time = refl

not_for_a_server : (epoch : ℕ) (moment : Moment) → handle_body fresh nodes.Master (bodies.Behind epoch) moment ≡ stray fresh
not_for_a_server epoch moment = refl

a_refusal_leaves_the_server : (p : Place) → step_of 1 None (unanswered refusals.Stray) fresh ≡ stray fresh
a_refusal_leaves_the_server p = refl

a_restart_drops_what_was_pushed : (req : ReqId) → restart (push fresh req (97 ∷ [])).after ≡ fresh
a_restart_drops_what_was_pushed req = refl
