-- What is seen of one chunk, in one world of a run or from one to a later one, by what its machine shows.
use Rattle.std.specs.Prelude.{◌+◌, ◌≡◌, ◌⊎◌, ℕ, [], List, None, Some, false, is_some, slice_get, true}
use Rattle.std.specs.FinMap as fin
use Rattle.gs_base.specs.Members.{is_member}
use Rattle.gs_base.specs.Stamps.{is_before}
use Rattle.gs_base.specs.declared.numbers.ReqId.{ReqId}
use Rattle.gs_laws_chunks.specs.accounts.Accounts.{Account, settled_edits, view_at}
use Rattle.gs_laws_chunks.specs.accounts.Running.{Setup}
use Rattle.gs_laws_chunk.specs.machine.Machine.{Entry}
use Rattle.gs_laws_parts.specs.master.Showing.{ShowsDurable}
use Rattle.gs_laws_master.specs.Promises.{IsKept}
use Rattle.gs_lease.specs.declared.view.View.{View}
use Rattle.gs_laws_lift.specs.stores.Unborn.{IsUnborn}
use Rattle.gs_world.specs.Histories.{History}
use Rattle.gs_server.specs.Runs.{slot_in}
use Rattle.gs_server.specs.Servers.{Server}
use Rattle.gs_master_spec.specs.Durable.{Durable, is_rolling, is_upgrade}
use Rattle.gs_store.specs.Learning.{start_of}
use Rattle.gs_store.specs.Slots.{Live}
use Rattle.gs_store.specs.Standing.{LiveUndamaged}
use Rattle.gs_laws_chunks.specs.accounts.Joined.{IsJustPrepared, IsSeen, SeenOn, SeenSince}
use Rattle.gs_laws_chunks.specs.accounts.Sealing.{IsLiveWith, KeepsText, Names}
use Rattle.gs_laws_chunks.specs.accounts.Standing.{IsBeginningOf, IsQuiet, IsStill, TakesNoEdit}
use Rattle.gs_laws_chunks.specs.accounts.Upgrading.{Survives}

module _ {D : Type 0} (x : Setup D) (bytes : ReqId → List ℕ) where
  -- each live replica of a chunk that is born stands for a beginning of a list
  abbrev pub SeenReplicasStand : Type 0
  SeenReplicasStand = (now : History D) (a : Account) (id chunk : ℕ) (s : Server) (l : Live) → IsSeen x bytes chunk now a → slice_get now.nodes.servers id ≡ Some s → (slot_in chunk s).live ≡ Some l → IsBeginningOf x.config.chunk chunk a now.sent s l

  -- each member of a quiet one has as many edits as its view counts, and takes no more
  abbrev pub SeenQuietIsStill : Type 0
  SeenQuietIsStill = (now : History D) (a : Account) (id chunk : ℕ) (view : View) (s : Server) → IsSeen x bytes chunk now a → IsQuiet a chunk view → is_member view.members id ≡ true → slice_get now.nodes.servers id ≡ Some s → IsStill x.config.chunk a chunk view s × TakesNoEdit now.sent chunk id s

  -- while an upgrade stands, or is being rolled back, each survivor keeps the text of the prepare
  abbrev pub SeenSurvivorsKeep : Type 0
  SeenSurvivorsKeep = (prepared now : History D) (before after : Account) (chunk id : ℕ) (view : View) (s : Server) → SeenSince x bytes chunk prepared before now after → Survives before after chunk id → view_at before chunk ≡ Some view → slice_get now.nodes.servers id ≡ Some s
      → KeepsText x.config.chunk before.durable.epoch view (settled_edits before chunk) chunk s

  -- and names its chunk while it is rolled back
  abbrev pub SeenSurvivorsName : Type 0
  SeenSurvivorsName = (prepared now : History D) (before after : Account) (chunk id : ℕ) (s : Server) → SeenSince x bytes chunk prepared before now after → is_rolling after.durable.phase ≡ true → Survives before after chunk id → slice_get now.nodes.servers id ≡ Some s
      → (s.kept.epoch ≡ after.durable.epoch) ⊎ (s.kept.epoch + 1 ≡ after.durable.epoch) → Names s after.durable.epoch chunk

  -- A survivor that has rolled back has the text of the prepare in a later world too, the commit and all that comes behind it: as long as it makes no greater
  -- promise, and has a live replica of which no block is damaged.
  abbrev pub SeenRolledBackStay : Type 0
  SeenRolledBackStay = (prepared now later : History D) (before after b : Account) (chunk id : ℕ) (view : View) (s r : Server) → (k : SeenSince x bytes chunk prepared before now after) (last : IsSeen x bytes chunk later b) → SeenOn x bytes chunk now after later b k.last last
      → Survives before after chunk id → view_at before chunk ≡ Some view → slice_get now.nodes.servers id ≡ Some s → s.kept.epoch ≡ before.durable.epoch + 1
      → slice_get later.nodes.servers id ≡ Some r → is_before (start_of (before.durable.epoch + 1)) (slot_in chunk r).promise ≡ false → is_some (slot_in chunk r).live ≡ true → LiveUndamaged (slot_in chunk r).live
      → IsLiveWith x.config.chunk (start_of (before.durable.epoch + 1)) (settled_edits before chunk) (slot_in chunk r)

-- of a chunk that isn't born no server has a live replica
abbrev pub UnbornHaveNone : {D : Type 0} → (D → List ℕ) → Type 0
UnbornHaveNone {D} seen = (now : History D) (id chunk : ℕ) (s : Server) → IsUnborn seen chunk now → slice_get now.nodes.servers id ≡ Some s → (slot_in chunk s).live ≡ None

-- Right behind a prepare the settled view of a chunk that a file has is the prepared one, where the records tell of the prepare, and of nothing that was changed since.
abbrev pub PreparesSettled : Type 0
PreparesSettled = (chunk : ℕ) (d : Durable) (e : Entry) → ShowsDurable chunk d e → IsKept d → is_upgrade d.phase ≡ true → d.inverses ≡ [] → fin.get d.prepared chunk ≡ None → IsJustPrepared chunk d e
