-- What the laws of a server speak of.
use Rattle.std.specs.Prelude.{◌≡◌, ◌<◌, ◌≤◌, ◌==◌, ℕ, Bool, false, true, [], Contains, Option, Some, None, Ok}
use Rattle.std.specs.List.{All}
use Rattle.std.specs.FinMap as fin
use Rattle.std.specs.Ordering.{eq_by_cmp}
use Rattle.gs_base.specs.declared.numbers.ClientId.{ClientId}
use Rattle.gs_base.specs.declared.numbers.Moment.{Moment}
use Rattle.gs_base.specs.declared.numbers.Stamp.{Stamp}
use Rattle.gs_base.specs.declared.numbers.ReqId.{ReqId}
use Rattle.gs_base.specs.Stamps.{is_same}
use Rattle.gs_replica.specs.declared.op.Done.{Done}
use Rattle.gs_replica.specs.declared.op.EditOutcome.TheVariants.{Padded}
use Rattle.gs_msg.specs.declared.op.Op.TheVariants.{Pad}
use Rattle.gs_msg.specs.declared.message.Message.{Message}
use Rattle.gs_msg.specs.declared.body.Body.{Body}
use Rattle.gs_msg.specs.declared.body.Body.TheVariants as bodies
use Rattle.gs_server_lease.specs.declared.lease.Open.{Open}
use Rattle.gs_server_lease.specs.Leases.{PrimaryLease, is_over, told_by, done_of, waits}
use Rattle.gs_base.specs.declared.refusal.Refusal.{Refusal}
use Rattle.gs_base.specs.declared.refusal.Refusal.TheVariants as refusals
use Rattle.gs_msg.specs.declared.chunk.Chunk.{Chunk}
use Rattle.gs_msg.specs.declared.chunk.Chunk.TheVariants as chunks
use Rattle.gs_server.specs.declared.turn.KeptRefusal.{KeptRefusal}
use Rattle.gs_server.specs.Promises.{Copying}
use Rattle.gs_store.specs.Buffers.{pushed, same_request}
use Rattle.gs_server.specs.Servers.{Server, client_cmp, place_of}
use Rattle.gs_server.specs.Places.{Place, Part, SlotChange, SlotStays, SlotBecomes, SlotMarked, LeaseStays}

-- a lease of this stamp is held, which is the promise, at a moment below its end
pub record IsHeldFor (moment : Moment) (stamp : Stamp) (p : Place) : Type 0 where
  pub lease : PrimaryLease
  pub held : p.lease ≡ Some lease
  pub asked : is_same stamp lease.grant.stamp ≡ true
  pub promised : is_same lease.grant.stamp p.slot.promise ≡ true
  pub in_time : is_over moment lease ≡ false

-- a lease of this stamp was the last one taken, and none is held
pub record IsSpent (stamp : Stamp) (p : Place) : Type 0 where
  pub taken : p.slot.taken ≡ Some stamp
  pub none : p.lease ≡ None

-- the request is above the client's last
abbrev pub IsAbove : Done → ReqId → Type 0
IsAbove last req = last.number < req.number

-- What a message that is refused leaves: the slot stays, but that a damaged block by which it is refused may mark its replica as bad;
-- the lease stays; and nothing leaves the buffer.
abbrev pub IsKept : Refusal → SlotChange → Type 0
IsKept refusal SlotStays = Unit {0}
IsKept refusal (SlotMarked block) = refusal ≡ refusals.Damaged block
IsKept refusal (SlotBecomes s) = ⊥

abbrev pub LeavesWhere : Option Refusal → Part → Type 0
LeavesWhere None part = Unit {0}
LeavesWhere (Some refusal) part = IsKept refusal part.slot × (part.lease ≡ LeaseStays) × (part.used ≡ false)

-- the request of an edit
abbrev pub edit_in : Chunk → Option ReqId
edit_in (chunks.Edit req stamp op) = Some req
edit_in chunk = None

-- A refusal that is kept is that of an edit, under the edit's number.
abbrev pub KeepsOwn : Option ReqId → Option Refusal → KeptRefusal → Type 0
KeepsOwn None said kept = ⊥
KeepsOwn (Some req) None kept = ⊥
KeepsOwn (Some req) (Some refusal) kept = kept ≡ record { number = req.number; refusal = refusal }

abbrev pub KeepsReply : Option KeptRefusal → Option ReqId → Option Refusal → Type 0
KeepsReply None edited said = Unit {0}
KeepsReply (Some kept) edited said = KeepsOwn edited said kept

abbrev pub LeavesIfRefused : Option ReqId → Part → Type 0
LeavesIfRefused edited part = LeavesWhere part.said part × KeepsReply part.kept edited part.said

-- A copy under a new handle that is refused leaves the new one's place, and of the old one what any refused message leaves; one
-- that is made leaves the old one's place.
abbrev pub LeavesCopied : Option Refusal → Copying → Type 0
LeavesCopied None copying = copying.source ≡ SlotStays
LeavesCopied (Some refusal) copying = IsKept refusal copying.source × (copying.target.slot ≡ SlotStays) × (copying.target.lease ≡ LeaseStays)

abbrev pub LeavesIfNotCopied : Copying → Type 0
LeavesIfNotCopied copying = LeavesCopied copying.target.said copying

-- a client is told that its edit is done
abbrev pub is_yes : Body → Bool
is_yes (bodies.Done req (Ok outcome)) = true
is_yes body = false

-- every member of a lease has told a count that reaches a number
pub record IsToldByAll (l : PrimaryLease) (number : ℕ) : Type 0 where
  pub each : All (λ server. number ≤ told_by l.told server) l.grant.members

-- a lease is held under which every member has
pub record IsToldUnder (held : Option PrimaryLease) (number : ℕ) : Type 0 where
  pub lease : PrimaryLease
  pub is : held ≡ Some lease
  pub told : IsToldByAll lease number

-- a pad that is numbered
abbrev pub padding : ReqId → Open
padding req = record { req = req; op = Pad; bytes = []; outcome = Padded }

-- what is told of an edit that waits under a lease, and of which every member has told
pub record IsDoneUnder (me : ℕ) (l : PrimaryLease) (m : Message) : Type 0 where
  pub number : ℕ
  pub edit : Open
  pub waiting : Contains l.outbox (number, edit)
  pub is : m ≡ done_of me (number, edit)
  pub told : IsToldByAll l number

-- a lease of the promise is held, under which a request's edit doesn't wait
pub record IsKnownToAll (req : ReqId) (p : Place) : Type 0 where
  pub lease : PrimaryLease
  pub held : p.lease ≡ Some lease
  pub promised : is_same lease.grant.stamp p.slot.promise ≡ true
  pub known : waits req lease ≡ false

-- a request of this client
abbrev pub is_of_client : ClientId → Option ReqId → Bool
is_of_client client None = false
is_of_client client (Some req) = eq_by_cmp client_cmp client req.client

-- this request
abbrev pub is_asked_by : ReqId → Option ReqId → Bool
is_asked_by other None = false
is_asked_by other (Some req) = same_request req other

-- What a copy under a new handle leaves of the rest: every third chunk, the epoch, and all that is kept of clients or was pushed.
pub record LeavesAllBut (handle new_handle : ℕ) (s after : Server) : Type 0 where
  pub places : (other : ℕ) → (other == handle) ≡ false → (other == new_handle) ≡ false → place_of other after ≡ place_of other s
  pub epoch : after.kept.epoch ≡ s.kept.epoch
  pub refused : after.kept.refused ≡ s.kept.refused
  pub pushes : after.dropped.buffer ≡ s.dropped.buffer

-- What a message about a chunk leaves of the rest: every other chunk, the epoch, what is kept of every other client, and the
-- bytes that were pushed for every other request.
pub record LeavesTheRest (handle : ℕ) (asked : Option ReqId) (s after : Server) : Type 0 where
  pub places : (other : ℕ) → (other == handle) ≡ false → place_of other after ≡ place_of other s
  pub epoch : after.kept.epoch ≡ s.kept.epoch
  pub refused : (client : ClientId) → is_of_client client asked ≡ false → fin.get after.kept.refused client ≡ fin.get s.kept.refused client
  pub pushes : (other : ReqId) → is_asked_by other asked ≡ false → pushed other after.dropped.buffer ≡ pushed other s.dropped.buffer
