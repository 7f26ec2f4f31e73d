-- What servers keep of a prepare.
use Rattle.std.specs.Prelude.{[], ◌+◌, ◌<◌, ◌∷◌, ◌≡◌, ◌⊎◌, List, None, Some, false, length, slice_get, true, ℕ}
use Rattle.gs_base.specs.Members.{is_member}
use Rattle.gs_base.specs.Stamps.{is_before}
use Rattle.gs_base.specs.declared.numbers.Stamp.{Stamp}
use Rattle.gs_block.specs.Stored.{Stored}
use Rattle.gs_lease.specs.declared.view.View.{View}
use Rattle.gs_laws_chunks.specs.accounts.Accounts.{Account, settled_edits, text_of, view_at}
use Rattle.gs_laws_chunks.specs.accounts.Running.{Runs, Setup}
use Rattle.gs_replica.specs.Seals.{Sealed, lowest_damaged}
use Rattle.gs_master_spec.specs.Durable.{is_rolling}
use Rattle.gs_store.specs.Learning.{start_of}
use Rattle.gs_laws_chunks.specs.accounts.Upgrading.{DropsNone, IsUpgrading, Spare, Survives}
use Rattle.gs_server.specs.Runs.{slot_in}
use Rattle.gs_store.specs.Slots.{Live, Slot, sealed_of}
use Rattle.gs_server.specs.Servers.{Server, learn}
use Rattle.gs_replica.specs.Stands.{Edit}
use Rattle.gs_world.specs.Histories.{History}
use Rattle.gs_world.specs.Runs.{Step}
use Rattle.gs_base.specs.declared.epoch.EpochEnd.TheVariants.{Rollback}
use Rattle.gs_msg.specs.declared.body.Body.TheVariants as bodies
use Rattle.gs_msg.specs.declared.node.NodeId.TheVariants as nodes
use Rattle.gs_server_lease.specs.Leases.{tell}

-- the bytes that these edits leave, and how many these are; each block has its digest
pub record HasText (size : ℕ) (edits : List Edit) (stored : Stored) (count : ℕ) : Type 0 where
  pub bytes : stored.bytes ≡ text_of size edits
  pub counted : count ≡ length edits
  pub whole : lowest_damaged stored ≡ None

-- a live replica has that text, under this promise
pub record IsLiveWith (size : ℕ) (promise : Stamp) (edits : List Edit) (slot : Slot) : Type 0 where
  pub live : Live
  pub lives : slot.live ≡ Some live
  pub promised : slot.promise ≡ promise
  pub text : HasText size edits live.replica.held.chunk live.replica.held.count

-- the one sealed image, live or in the trash: undoing gives that text
pub record IsSealedWith (size : ℕ) (edits : List Edit) (slot : Slot) : Type 0 where
  pub image : Sealed
  pub sealed : sealed_of slot ≡ Some image
  pub text : HasText size edits image.undone image.count

-- What a server has by its epoch: before it learns of the prepare, its replica under the stamp of then; while it knows of the upgrade, the sealed image; and
-- once it has learned of the rollback, a live replica under the first stamp of the rollback's epoch.
pub record KeepsText (size upgrade : ℕ) (view : View) (edits : List Edit) (chunk : ℕ) (s : Server) : Type 0 where
  pub unlearned : s.kept.epoch < upgrade → IsLiveWith size view.stamp edits (slot_in chunk s)
  pub learned : s.kept.epoch ≡ upgrade → IsSealedWith size edits (slot_in chunk s)
  pub rolled_back : s.kept.epoch ≡ upgrade + 1 → IsLiveWith size (start_of (upgrade + 1)) edits (slot_in chunk s)

-- a server names a chunk where it learns that an epoch is a rollback, or is told so again
pub record Names (s : Server) (epoch chunk : ℕ) : Type 0 where
  pub handles : List ℕ
  pub says : (learn s epoch Rollback).sent ≡ tell s.me nodes.Master (bodies.Learned epoch handles) ∷ []
  pub named : is_member handles chunk ≡ true

module _ {D : Type 0} (x : Setup D) where
  -- so it is of each survivor, while the upgrade stands and while it is rolled back
  abbrev pub SurvivorsKeepTheirText : Type 0
  SurvivorsKeepTheirText = (prepared now : History D) (before after : Account) (chunk id : ℕ) (view : View) (s : Server) → IsUpgrading x prepared before now after → Survives before after chunk id →
      view_at before chunk ≡ Some view → slice_get now.nodes.servers id ≡ Some s →
      KeepsText x.config.chunk before.durable.epoch view (settled_edits before chunk) chunk s

  -- A survivor that has learned of the rollback has its replica live behind that too, whatever happens, the commit and all that comes behind it: until the server
  -- makes a greater promise, or the replica is lost, damaged or dropped.
  abbrev pub RolledBackStay : Type 0
  RolledBackStay = (prepared now later : History D) (before after b : Account) (chunk id : ℕ) (s r : Server) (steps : List Step) → IsUpgrading x prepared before now after → Survives before after chunk id →
      slice_get now.nodes.servers id ≡ Some s → s.kept.epoch ≡ before.durable.epoch + 1 →
      (runs : Runs x steps now after later b) → Spare chunk id steps → DropsNone x chunk id steps now after later b runs →
      slice_get later.nodes.servers id ≡ Some r → is_before (start_of (before.durable.epoch + 1)) (slot_in chunk r).promise ≡ false →
      IsLiveWith x.config.chunk (start_of (before.durable.epoch + 1)) (settled_edits before chunk) (slot_in chunk r)

  -- and each survivor names its chunk
  abbrev pub SurvivorsName : Type 0
  SurvivorsName = (prepared now : History D) (before after : Account) (chunk id : ℕ) (s : Server) → IsUpgrading x prepared before now after → is_rolling after.durable.phase ≡ true → Survives before after chunk id →
      slice_get now.nodes.servers id ≡ Some s → (s.kept.epoch ≡ after.durable.epoch) ⊎ (s.kept.epoch + 1 ≡ after.durable.epoch) → Names s after.durable.epoch chunk
