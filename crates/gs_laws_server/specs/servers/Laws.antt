-- What the laws of a chunkserver say.
use Rattle.std.specs.Prelude.{◌≡◌, ◌<◌, ◌+◌, ℕ, cond, Bool, true, false, List, [], ◌∷◌, length, Contains, Option, Some, None, is_some, Ok}
use Rattle.gs_base.specs.declared.numbers.Stamp.{Stamp}
use Rattle.gs_base.specs.declared.numbers.ReqId.{ReqId}
use Rattle.gs_base.specs.declared.numbers.Moment.{Moment}
use Rattle.gs_base.specs.declared.refusal.Refusal.{Refusal}
use Rattle.gs_base.specs.Stamps.{is_same, is_before}
use Rattle.gs_replica.specs.declared.op.Done.{Done}
use Rattle.gs_replica.specs.Edits.{outcome_of}
use Rattle.gs_replica.specs.Copies.{Image, SealedImage}
use Rattle.gs_replica.specs.Stands.{Edit, replica_of}
use Rattle.gs_msg.specs.declared.chunk.Chunk.{Chunk}
use Rattle.gs_msg.specs.declared.chunk.Chunk.TheVariants.{CopyIn, CopyOut, Create}
use Rattle.gs_msg.specs.declared.body.Body.TheVariants.{About}
use Rattle.gs_msg.specs.declared.message.Message.{Message}
use Rattle.gs_msg.specs.declared.op.Op.{Op}
use Rattle.gs_msg.specs.declared.node.NodeId.{NodeId}
use Rattle.gs_msg.specs.Ops.{in_replica}
use Rattle.gs_store.specs.Slots.{Live, Slot, sealed_of}
use Rattle.gs_store.specs.Serving.{apply, done_in}
use Rattle.gs_store.specs.Standing.{StandsIn, HoldsIn, IsToldIn, StoodIn, LiveUndamaged}
use Rattle.gs_store.specs.Moves.{sound_image}
use Rattle.gs_server.specs.Places.{Place, Here, SlotBecomes, after}
use Rattle.gs_server_lease.specs.declared.lease.Open.{Open}
use Rattle.gs_server_lease.specs.Leases.{PrimaryLease, tell, hears, done_of}
use Rattle.gs_server_lease.specs.Numbering.{numbered_op}
use Rattle.gs_server.specs.Promises.{drop_replica}
use Rattle.gs_server.specs.Holding.{ack, is_held}
use Rattle.gs_server.specs.Laws.{IsToldByAll, IsKnownToAll}
use Rattle.gs_server.specs.Edits.{edit, forward, done}
use Rattle.gs_server.specs.Servers.{Server, handle, handle_chunk, make_copy, about_chunk, here_of, place_of, request_in}
use Rattle.gs_server.specs.Runs.{Event, behind, behind_all, slot_in, IsReached, KeepSeal, AllSpare, rolled_back}
use Rattle.gs_laws_server.specs.servers.Following.{IsToldBefore, AreToldBefore, remakes, NoneRemakes, damages, NoneDamages, edits_behind, edits_behind_all}
use Rattle.gs_laws_server.specs.servers.Refusing.{LeavesBut}
use Rattle.gs_laws_server.specs.servers.Waiting.{AreCounted}
use Rattle.gs_laws_server.specs.servers.Sealing.{HasSizes, IsImageOf, TakesSealed}
use Rattle.gs_laws_server.specs.servers.Editing.{IsTakenBy, IsNumberedBy, MayBeTaken, MayBeNumbered, numbered_edit}
use Rattle.gs_msg.specs.declared.node.NodeId.TheVariants as nodes

-- ---- edits by messages
-- A forward that changes a slot is taken as the next edit of its replica, as the message says.
abbrev pub ForwardsAreTaken : Type 0
ForwardsAreTaken = (h : Here) (p : Place) (from : NodeId) (stamp : Stamp) (number : ℕ) (req : ReqId) (op : Op) (carried : Option (List ℕ)) (s : Slot)
    → (forward h p from stamp number req op carried).slot ≡ SlotBecomes s
    → IsTakenBy h p from stamp number req op carried (forward h p from stamp number req op carried) s

-- A client's edit that changes a slot is numbered as the next one of its replica, as the message says.
abbrev pub EditsAreNumbered : Type 0
EditsAreNumbered = (h : Here) (p : Place) (req : ReqId) (stamp : Stamp) (op : Op) (s : Slot) → (edit h p req stamp op).slot ≡ SlotBecomes s
    → IsNumberedBy h p req stamp op (edit h p req stamp op) s

-- A forward that may be taken is taken, where the replica takes its edit.
abbrev pub FittingForwardsAreTaken : Type 0
FittingForwardsAreTaken = (h : Here) (p : Place) (from : NodeId) (stamp : Stamp) (number : ℕ) (req : ReqId) (op : Op) (carried : Option (List ℕ)) (live : Live) (bytes : List ℕ) (s : Slot)
    → MayBeTaken h p stamp number op carried live bytes → apply stamp number req (in_replica op) bytes p.slot ≡ Ok s
    → (forward h p from stamp number req op carried).slot ≡ SlotBecomes s

-- An edit that may be numbered is numbered, where the replica takes it.
abbrev pub FittingEditsAreNumbered : Type 0
FittingEditsAreNumbered = (h : Here) (p : Place) (req : ReqId) (stamp : Stamp) (op : Op) (live : Live) (l : PrimaryLease) (bytes : List ℕ) (s : Slot)
    → MayBeNumbered h p req stamp op live l bytes
    → apply l.grant.stamp (live.replica.held.count + 1) req (in_replica (numbered_edit h req op bytes live).op) (numbered_edit h req op bytes live).bytes p.slot ≡ Ok s
    → (edit h p req stamp op).slot ≡ SlotBecomes s

-- ---- what a replica stands for
-- Behind an event that leaves a replica live, it stands for its edits, and the one that the event applies.
abbrev pub ReplicasStandBehindAnEvent : Type 0
ReplicasStandBehindAnEvent = (handle : ℕ) (e : Event) (s : Server) (edits : List Edit) → StandsIn s.block s.chunk (slot_in handle s) edits → IsToldBefore handle e s edits
    → remakes handle e s ≡ false → is_some (slot_in handle (behind e s)).live ≡ true
    → StandsIn s.block s.chunk (slot_in handle (behind e s)) (edits_behind handle e s edits)

-- So it does behind a run of events.
abbrev pub ReplicasStandBehindARun : Type 0
ReplicasStandBehindARun = (handle : ℕ) (events : List Event) (s : Server) (edits : List Edit) → StandsIn s.block s.chunk (slot_in handle s) edits
    → AreToldBefore handle events s edits → NoneRemakes handle events s → is_some (slot_in handle (behind_all events s)).live ≡ true
    → StandsIn s.block s.chunk (slot_in handle (behind_all events s)) (edits_behind_all handle events s edits)

-- A replica that is live behind a run, in which none is made anew, was live before it.
abbrev pub ReplicasLiveThroughout : Type 0
ReplicasLiveThroughout = (handle : ℕ) (events : List Event) (s : Server) → NoneRemakes handle events s → is_some (slot_in handle (behind_all events s)).live ≡ true
    → is_some (slot_in handle s).live ≡ true

-- ---- blocks
-- A block that holds what the edits give holds it behind an event that neither damages it nor makes the replica anew.
abbrev pub BlocksHoldBehindAnEvent : Type 0
BlocksHoldBehindAnEvent = (handle k : ℕ) (e : Event) (s : Server) (edits : List Edit) → StandsIn s.block s.chunk (slot_in handle s) edits
    → HoldsIn s.block s.chunk (slot_in handle s) edits k → remakes handle e s ≡ false → damages handle k e s ≡ false → is_some (slot_in handle (behind e s)).live ≡ true
    → HoldsIn s.block s.chunk (slot_in handle (behind e s)) (edits_behind handle e s edits) k

-- So it does behind a run of such events.
abbrev pub BlocksHoldBehindARun : Type 0
BlocksHoldBehindARun = (handle k : ℕ) (events : List Event) (s : Server) (edits : List Edit) → StandsIn s.block s.chunk (slot_in handle s) edits
    → HoldsIn s.block s.chunk (slot_in handle s) edits k → AreToldBefore handle events s edits → NoneRemakes handle events s → NoneDamages handle k events s
    → is_some (slot_in handle (behind_all events s)).live ≡ true
    → HoldsIn s.block s.chunk (slot_in handle (behind_all events s)) (edits_behind_all handle events s edits) k

-- Each block of a replica that is created holds what no edits give.
abbrev pub CreatedBlocksHold : Type 0
CreatedBlocksHold = (s : Server) (from : NodeId) (handle k : ℕ) (stamp : Stamp) (moment : Moment) → is_before (slot_in handle s).promise stamp ≡ true
    → (handle_chunk s from handle (Create stamp) moment).said ≡ None
    → HoldsIn s.block s.chunk (slot_in handle (handle_chunk s from handle (Create stamp) moment).after) [] k

-- Each block of an undamaged replica holds what the edits give, where digests tell.
abbrev pub UndamagedBlocksHold : Type 0
UndamagedBlocksHold = (handle k : ℕ) (s : Server) (edits : List Edit) → StandsIn s.block s.chunk (slot_in handle s) edits
    → IsToldIn s.block s.chunk (slot_in handle s) edits → LiveUndamaged (slot_in handle s).live → HoldsIn s.block s.chunk (slot_in handle s) edits k

-- ---- what is made anew
-- A create that is accepted, under a stamp above the promise, makes a replica of no edits.
abbrev pub CreatedReplicasStand : Type 0
CreatedReplicasStand = (s : Server) (from : NodeId) (handle : ℕ) (stamp : Stamp) (moment : Moment) → HasSizes s → is_before (slot_in handle s).promise stamp ≡ true
    → (handle_chunk s from handle (Create stamp) moment).said ≡ None
    → StandsIn s.block s.chunk (slot_in handle (handle_chunk s from handle (Create stamp) moment).after) []

-- A copy that is sent carries what the edits of its source give, and its sealed image where that is asked for.
abbrev pub SentCopiesAreExact : Type 0
SentCopiesAreExact = (s : Server) (from : NodeId) (handle : ℕ) (stamp : Stamp) (target : ℕ) (with_sealed : Bool) (moment : Moment) (edits : List Edit)
    → StandsIn s.block s.chunk (slot_in handle s) edits → IsToldIn s.block s.chunk (slot_in handle s) edits
    → (handle_chunk s from handle (CopyOut stamp target with_sealed) moment).said ≡ None
    → (handle_chunk s from handle (CopyOut stamp target with_sealed) moment).sent ≡ tell s.me (nodes.Server target) (About handle (CopyIn stamp (replica_of s.chunk edits) (cond with_sealed (sound_image (sealed_of (slot_in handle s))) None))) ∷ []

-- A copy that is taken, under a stamp above the promise, stands undamaged for the edits that give its image.
abbrev pub TakenCopiesStand : Type 0
TakenCopiesStand = (s : Server) (from : NodeId) (handle : ℕ) (stamp : Stamp) (image : Image) (sealed : Option SealedImage) (moment : Moment) (edits : List Edit)
    → HasSizes s → IsImageOf image edits s → is_before (slot_in handle s).promise stamp ≡ true
    → (handle_chunk s from handle (CopyIn stamp image sealed) moment).said ≡ None
    → StandsIn s.block s.chunk (slot_in handle (handle_chunk s from handle (CopyIn stamp image sealed) moment).after) edits × LiveUndamaged (slot_in handle (handle_chunk s from handle (CopyIn stamp image sealed) moment).after).live

-- A copy under a new handle stands undamaged for the edits of the old one.
abbrev pub CopiesOfChunksStand : Type 0
CopiesOfChunksStand = (s : Server) (handle : ℕ) (at : Stamp) (new_handle : ℕ) (stamp : Stamp) (moment : Moment) (edits : List Edit)
    → StandsIn s.block s.chunk (slot_in handle s) edits → is_before (slot_in new_handle s).promise stamp ≡ true
    → (make_copy s handle at new_handle stamp moment).said ≡ None
    → StandsIn s.block s.chunk (slot_in new_handle (make_copy s handle at new_handle stamp moment).after) edits × LiveUndamaged (slot_in new_handle (make_copy s handle at new_handle stamp moment).after).live

-- What a rollback makes live stands undamaged for what was sealed.
abbrev pub RolledBackReplicasStand : Type 0
RolledBackReplicasStand = (handle : ℕ) (s : Server) (edits : List Edit) → StoodIn s.block s.chunk (slot_in handle s) edits
    → is_some (slot_in handle (rolled_back s)).live ≡ true
    → StandsIn s.block s.chunk (slot_in handle (rolled_back s)) edits × LiveUndamaged (slot_in handle (rolled_back s)).live

-- ---- edits that all have
-- An acknowledgement under the stamp of the lease tells each edit done that waits and that all have then.
abbrev pub WaitingEditsAreDone : Type 0
WaitingEditsAreDone = (h : Here) (p : Place) (server : ℕ) (stamp : Stamp) (count : ℕ) (l : PrimaryLease) (number : ℕ) (waiting : Open) → p.lease ≡ Some l
    → is_same stamp l.grant.stamp ≡ true → Contains l.outbox (number, waiting) → IsToldByAll (hears server count l) number
    → Contains (ack h p server stamp count).sent (done_of h.me (number, waiting))

-- An edit that all have where it is numbered is told done at once.
abbrev pub EditsAreDoneAtOnce : Type 0
EditsAreDoneAtOnce = (h : Here) (p : Place) (req : ReqId) (stamp : Stamp) (op : Op) (live : Live) (l : PrimaryLease) (s : Slot) → p.slot.live ≡ Some live
    → p.lease ≡ Some l → (edit h p req stamp op).slot ≡ SlotBecomes s → IsToldByAll (hears h.me (live.replica.held.count + 1) l) (live.replica.held.count + 1)
    → Contains (edit h p req stamp op).sent (done h req (Ok (outcome_of (in_replica (numbered_op h.chunk (length live.replica.held.chunk.bytes) op)) live.replica.held.chunk)))

-- So is each edit where the server is the only member.
abbrev pub EditsOfOneMemberAreDone : Type 0
EditsOfOneMemberAreDone = (h : Here) (p : Place) (req : ReqId) (stamp : Stamp) (op : Op) (live : Live) (l : PrimaryLease) (s : Slot) → p.slot.live ≡ Some live
    → p.lease ≡ Some l → (edit h p req stamp op).slot ≡ SlotBecomes s → l.grant.members ≡ h.me ∷ [] → h.me < length l.told
    → Contains (edit h p req stamp op).sent (done h req (Ok (outcome_of (in_replica (numbered_op h.chunk (length live.replica.held.chunk.bytes) op)) live.replica.held.chunk)))

-- The last edit of a client that comes again is answered as done, where all are known to have it.
abbrev pub RepeatedEditsAreDone : Type 0
RepeatedEditsAreDone = (h : Here) (p : Place) (req : ReqId) (stamp : Stamp) (op : Op) (last : Done) → done_in p.slot.live req.client.0 ≡ Some last
    → req.number ≡ last.number → IsKnownToAll req p → (edit h p req stamp op).sent ≡ done h req (Ok last.outcome) ∷ []

-- An acknowledgement under another stamp sends nothing, and changes nothing of the chunk.
abbrev pub OtherAcknowledgementsChangeNothing : Type 0
OtherAcknowledgementsChangeNothing = (h : Here) (p : Place) (server : ℕ) (stamp : Stamp) (count : ℕ) → is_held stamp p.lease ≡ false
    → ((ack h p server stamp count).sent ≡ []) × (after p (ack h p server stamp count) ≡ p)

-- ---- messages
-- A refused message leaves all that a server keeps, but a mark of damage, and a refusal that is kept for a client.
abbrev pub RefusedMessagesLeaveTheServer : Type 0
RefusedMessagesLeaveTheServer = (s : Server) (message : Message) (moment : Moment) (refusal : Refusal) → (handle s message moment).said ≡ Some refusal
    → LeavesBut message.body refusal s (handle s message moment).after

-- A message about a chunk makes of what is kept of it what its part says.
abbrev pub MessagesMakeWhatTheySay : Type 0
MessagesMakeWhatTheySay = (s : Server) (from : NodeId) (handle : ℕ) (chunk : Chunk) (moment : Moment)
    → place_of handle (handle_chunk s from handle chunk moment).after ≡ after (place_of handle s) (about_chunk (here_of s moment handle (request_in chunk)) (place_of handle s) from chunk)

-- ---- outboxes
-- The number of each edit that waits is at most the count of the live replica.
abbrev pub OutboxesAreCounted : Type 0
OutboxesAreCounted = (handle : ℕ) (s : Server) (l : PrimaryLease) (live : Live) → IsReached s → (place_of handle s).lease ≡ Some l → (slot_in handle s).live ≡ Some live
    → AreCounted live.replica.held.count l.outbox

-- ---- sealed images
-- What is sealed stands for the same edits behind each run that keeps the seal.
abbrev pub SealedImagesStand : Type 0
SealedImagesStand = (handle : ℕ) (events : List Event) (s : Server) (edits : List Edit) → StoodIn s.block s.chunk (slot_in handle s) edits → KeepSeal handle events s
    → StoodIn s.block s.chunk (slot_in handle (behind_all events s)) edits

-- Where damage was of blocks that edits had touched, a copy carries the same image behind the run.
abbrev pub SparedImagesStay : Type 0
SparedImagesStay = (handle : ℕ) (events : List Event) (s : Server) → KeepSeal handle events s → AllSpare handle events s
    → sound_image (sealed_of (slot_in handle (behind_all events s))) ≡ sound_image (sealed_of (slot_in handle s))

-- A rollback makes live what the image of an accepted copy stood for, undamaged, if it makes anything live.
abbrev pub CarriedImagesComeBack : Type 0
CarriedImagesComeBack = (handle : ℕ) (edits : List Edit) (events : List Event) (s next : Server) → TakesSealed handle edits s next → KeepSeal handle events next
    → is_some (slot_in handle (rolled_back (behind_all events next))).live ≡ true
    → StandsIn s.block s.chunk (slot_in handle (rolled_back (behind_all events next))) edits × LiveUndamaged (slot_in handle (rolled_back (behind_all events next))).live

-- It does make that live where damage was of blocks that edits had touched.
abbrev pub SparedImagesComeBack : Type 0
SparedImagesComeBack = (handle : ℕ) (edits : List Edit) (events : List Event) (s next : Server) → TakesSealed handle edits s next → KeepSeal handle events next
    → AllSpare handle events next → is_some (slot_in handle (rolled_back (behind_all events next))).live ≡ true

-- ---- what is promised again
-- A create under a stamp that is not above the promise leaves slot and lease.
abbrev pub CreatesAgainLeaveThePlace : Type 0
CreatesAgainLeaveThePlace = (s : Server) (from : NodeId) (handle : ℕ) (stamp : Stamp) (moment : Moment) → IsReached s → is_before (slot_in handle s).promise stamp ≡ false
    → place_of handle (handle_chunk s from handle (Create stamp) moment).after ≡ place_of handle s

-- So does a copy.
abbrev pub CopiesAgainLeaveThePlace : Type 0
CopiesAgainLeaveThePlace = (s : Server) (from : NodeId) (handle : ℕ) (stamp : Stamp) (image : Image) (sealed : Option SealedImage) (moment : Moment) → IsReached s
    → is_before (slot_in handle s).promise stamp ≡ false → place_of handle (handle_chunk s from handle (CopyIn stamp image sealed) moment).after ≡ place_of handle s

-- ---- a drop
-- A drop that is accepted leaves neither a live replica nor a lease.
abbrev pub DropsLeaveNoLease : Type 0
DropsLeaveNoLease = (h : Here) (p : Place) (epoch : ℕ) (promise : Stamp) → (drop_replica h p epoch promise).said ≡ None
    → ((after p (drop_replica h p epoch promise)).lease ≡ None) × ((after p (drop_replica h p epoch promise)).slot.live ≡ None)
