-- What the laws of a server say.
use Rattle.std.specs.Prelude.{◌≡◌, ◌≢◌, ◌<◌, ◌+◌, ℕ, true, List, [], ◌++◌, length, Option, Some, None, is_some, Ok, Err}
use Rattle.std.specs.List.{All}
use Rattle.gs_base.specs.declared.numbers.Stamp.{Stamp}
use Rattle.gs_base.specs.declared.numbers.ReqId.{ReqId}
use Rattle.gs_base.specs.declared.epoch.EpochEnd.{EpochEnd}
use Rattle.gs_base.specs.declared.refusal.Refusal.{Refusal}
use Rattle.gs_base.specs.Stamps.{is_same}
use Rattle.gs_replica.specs.declared.op.Done.{Done}
use Rattle.gs_replica.specs.declared.op.Op.TheVariants.{Pad}
use Rattle.gs_replica.specs.Stands.{Edit}
use Rattle.gs_msg.specs.declared.op.Op.{Op}
use Rattle.gs_msg.specs.declared.op.Op.TheVariants.{Append}
use Rattle.gs_msg.specs.declared.node.NodeId.{NodeId}
use Rattle.gs_store.specs.Slots.{Live, Slot}
use Rattle.gs_store.specs.Serving.{apply, done_in}
use Rattle.gs_store.specs.Standing.{StandsIn, LiveUndamaged}
use Rattle.gs_store.specs.Learning.{start_of}
use Rattle.gs_store.specs.Stores as stores
use Rattle.gs_server_lease.specs.Leases.{PrimaryLease, hears, forwards, done_at_once}
use Rattle.gs_server.specs.Places.{Place, Here, SlotBecomes, LeaseBecomes, after}
use Rattle.gs_server.specs.Edits.{edit, forward}
use Rattle.gs_server.specs.Holding.{ack}
use Rattle.gs_server.specs.Servers.{Server, store_of, place_of, learn}
use Rattle.gs_server.specs.Runs.{Event, behind, behind_all, slot_in, TakesLease, IsReached, prepared, rolled_back, KeepSeal, AllSpare}
use Rattle.gs_server.specs.Laws.{IsSpent, IsAbove, is_yes, IsToldByAll, IsToldUnder, IsDoneUnder, IsKnownToAll, padding}

-- ---- edits
-- An edit is numbered only above its client's last.
abbrev pub NumbersRise : Type 0
NumbersRise = (h : Here) (p : Place) (req : ReqId) (stamp : Stamp) (op : Op) (last : Done) (s : Slot) → done_in p.slot.live req.client.0 ≡ Some last
    → (edit h p req stamp op).slot ≡ SlotBecomes s → IsAbove last req

-- A forward that changes a slot is of the promise.
abbrev pub ForwardsAreOfThePromise : Type 0
ForwardsAreOfThePromise = (h : Here) (p : Place) (from : NodeId) (stamp : Stamp) (number : ℕ) (req : ReqId) (op : Op) (carried : Option (List ℕ)) (s : Slot)
    → (forward h p from stamp number req op carried).slot ≡ SlotBecomes s → is_same stamp p.slot.promise ≡ true

-- What an edit that is numbered tells as done at once, every member of the lease has told.
abbrev pub DoneAtOnceIsToldByAll : Type 0
DoneAtOnceIsToldByAll = (h : Here) (p : Place) (req : ReqId) (stamp : Stamp) (op : Op) (live : Live) (l : PrimaryLease) → p.slot.live ≡ Some live
    → (edit h p req stamp op).lease ≡ LeaseBecomes l → All (λ m. is_yes m.body ≡ true → IsToldByAll l (live.replica.held.count + 1)) (edit h p req stamp op).sent

-- It is under a lease that is held then.
abbrev pub DoneAtOnceIsUnderALease : Type 0
DoneAtOnceIsUnderALease = (h : Here) (p : Place) (req : ReqId) (stamp : Stamp) (op : Op) (live : Live) (s : Slot) → p.slot.live ≡ Some live
    → (edit h p req stamp op).slot ≡ SlotBecomes s
    → All (λ m. is_yes m.body ≡ true → IsToldUnder (after p (edit h p req stamp op)).lease (live.replica.held.count + 1)) (edit h p req stamp op).sent

-- What is told at an acknowledgement are edits that waited, of which every member has told.
abbrev pub DoneLaterIsToldByAll : Type 0
DoneLaterIsToldByAll = (h : Here) (p : Place) (server : ℕ) (stamp : Stamp) (count : ℕ) (l : PrimaryLease) → p.lease ≡ Some l
    → All (IsDoneUnder h.me (hears server count l)) (ack h p server stamp count).sent

-- A client's last edit is told as done again only where it is known to all.
abbrev pub RepeatsAreKnownToAll : Type 0
RepeatsAreKnownToAll = (h : Here) (p : Place) (req : ReqId) (stamp : Stamp) (op : Op) (last : Done) → done_in p.slot.live req.client.0 ≡ Some last
    → req.number ≡ last.number → All (λ m. is_yes m.body ≡ true → IsKnownToAll req p) (edit h p req stamp op).sent

-- An append that is numbered and doesn't fit is applied as a pad.
abbrev pub UnfitAppendsArePads : Type 0
UnfitAppendsArePads = (h : Here) (p : Place) (req : ReqId) (stamp : Stamp) (many : ℕ) (live : Live) (s : Slot) → p.slot.live ≡ Some live
    → h.chunk < length live.replica.held.chunk.bytes + many → (edit h p req stamp (Append many)).slot ≡ SlotBecomes s
    → apply stamp (live.replica.held.count + 1) req Pad [] p.slot ≡ Ok s

-- It goes to the other members, and is told, as that pad.
abbrev pub UnfitAppendsGoAsPads : Type 0
UnfitAppendsGoAsPads = (h : Here) (p : Place) (req : ReqId) (stamp : Stamp) (many : ℕ) (live : Live) (l : PrimaryLease) (s : Slot) → p.slot.live ≡ Some live → p.lease ≡ Some l
    → h.chunk < length live.replica.held.chunk.bytes + many → (edit h p req stamp (Append many)).slot ≡ SlotBecomes s
    → (edit h p req stamp (Append many)).sent ≡ forwards h.me h.handle l (live.replica.held.count + 1, padding req) ++ done_at_once h.me (live.replica.held.count + 1) (padding req) l

-- ---- epochs
-- An epoch that a server refuses its store refuses, and the server stays.
abbrev pub RefusedEpochsLeaveTheServer : Type 0
RefusedEpochsLeaveTheServer = (epoch : ℕ) (end : EpochEnd) (s : Server) (refusal : Refusal) → (learn s epoch end).said ≡ Some refusal
    → (stores.learn epoch end (store_of s) ≡ Err refusal) × ((learn s epoch end).after ≡ s)

-- What a rollback makes live stands for what it stood for at the prepare, and has no damaged block.
abbrev pub RollbacksGoBack : Type 0
RollbacksGoBack = (handle : ℕ) (edits : List Edit) (events : List Event) (s : Server) → StandsIn s.block s.chunk (slot_in handle s) edits → KeepSeal handle events (prepared s)
    → is_some (slot_in handle (rolled_back (behind_all events (prepared s)))).live ≡ true
    → StandsIn s.block s.chunk (slot_in handle (rolled_back (behind_all events (prepared s)))) edits × LiveUndamaged (slot_in handle (rolled_back (behind_all events (prepared s)))).live

-- It makes a chunk live that was so at the prepare, undamaged, and that was spared since.
abbrev pub RollbacksMakeLive : Type 0
RollbacksMakeLive = (handle : ℕ) (events : List Event) (s : Server) → is_some (slot_in handle s).live ≡ true → LiveUndamaged (slot_in handle s).live
    → KeepSeal handle events (prepared s) → AllSpare handle events (prepared s) → is_some (slot_in handle (rolled_back (behind_all events (prepared s)))).live ≡ true

-- What it makes live is under the first stamp of its epoch.
abbrev pub RollbacksStartTheEpoch : Type 0
RollbacksStartTheEpoch = (handle : ℕ) (s : Server) → IsReached s → is_some (slot_in handle (rolled_back s)).live ≡ true
    → (slot_in handle (rolled_back s)).promise ≡ start_of (s.kept.epoch + 1)

-- ---- leases
-- No lease is taken twice.
abbrev pub LeasesAreTakenOnce : Type 0
LeasesAreTakenOnce = (handle : ℕ) (stamp : Stamp) (first again : Event) (events : List Event) (s : Server) → TakesLease handle stamp first s
    → TakesLease handle stamp again (behind_all events (behind first s)) → ⊥

-- A change of the promise spends the lease.
abbrev pub NewPromisesSpendTheLease : Type 0
NewPromisesSpendTheLease = (handle : ℕ) (e : Event) (s : Server) → IsReached s → (slot_in handle (behind e s)).promise ≢ (slot_in handle s).promise
    → (place_of handle (behind e s)).lease ≡ None

-- No lease that is spent is held again.
abbrev pub SpentLeasesStaySpent : Type 0
SpentLeasesStaySpent = (handle : ℕ) (stamp : Stamp) (events : List Event) (s : Server) (l : PrimaryLease) → IsReached s → IsSpent stamp (place_of handle s)
    → (place_of handle (behind_all events s)).lease ≡ Some l → l.grant.stamp ≢ stamp
