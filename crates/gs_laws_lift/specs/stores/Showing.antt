-- How the machine of one chunk shows a store.
use Rattle.std.specs.Prelude.{◌≡◌, ◌⊎◌, ◌&&◌, ◌||◌, ℕ, Bool, true, false, List, Option, Some, None, is_none, slice_get, Contains}
use Rattle.gs_base.specs.declared.config.Config.{Config}
use Rattle.gs_base.specs.declared.epoch.EpochEnd.{EpochEnd}
use Rattle.gs_base.specs.declared.epoch.EpochEnd.TheVariants as ends
use Rattle.gs_base.specs.declared.numbers.ReqId.{ReqId}
use Rattle.gs_journal.specs.Records.{standing}
use Rattle.gs_laws_master.specs.Promises.{IsKept}
use Rattle.gs_laws_master.specs.Standing.{AreCounters}
use Rattle.gs_replica.specs.Seals.{Sealed, lowest_damaged}
use Rattle.gs_server.specs.Runs as at_server
use Rattle.gs_server.specs.Runs.{slot_in}
use Rattle.gs_server.specs.Servers.{Server, place_of}
use Rattle.gs_master_spec.specs.Durable.{Durable}
use Rattle.gs_store.specs.Slots.{Live, sealed_of}
use Rattle.gs_nodes.specs.declared.place.MasterPlace.{MasterPlace}
use Rattle.gs_nodes.specs.declared.place.MasterPlace.TheVariants.{Standing, Closed, Away}
use Rattle.gs_world.specs.Histories.{History}
use Rattle.gs_laws_world.specs.lasting.Lasting.{IsToldIn}
use Rattle.gs_laws_chunk.specs.machine.Machine.{ChunkWorld}
use Rattle.gs_laws_chunk.specs.machine.Laws.{IsReached}
use Rattle.gs_laws_parts.specs.server.Showing.{Setting, ShowsPlace}
use Rattle.gs_laws_parts.specs.server.Telling.{ServersTell}
use Rattle.gs_laws_parts.specs.server.Moving.{IsToldApart}
use Rattle.gs_laws_parts.specs.master.Showing.{ShowsDurable}
use Rattle.gs_laws_parts.specs.master.Telling as entry
use Rattle.gs_laws_lift.specs.stores.Unborn.{IsUnborn}
use Rattle.gs_laws_lift.specs.stores.Going.{AllSent}

-- ---- whose blocks all have their digests

abbrev pub is_live_whole : Option Live → Bool
is_live_whole None = false
is_live_whole (Some l) = is_none (lowest_damaged l.replica.held.chunk)

abbrev pub is_seal_whole : Option Sealed → Bool
is_seal_whole None = true
is_seal_whole (Some t) = is_none (lowest_damaged t.undone)

-- the epoch is over, and it wasn't rolled back
abbrev pub is_no_rollback : Option EpochEnd → Bool
is_no_rollback None = false
is_no_rollback (Some ends.Rollback) = false
is_no_rollback (Some end) = true

abbrev pub is_over : Durable → ℕ → Bool
is_over d epoch = is_no_rollback (slice_get d.ends epoch)

-- Those servers are marked at a prepare, behind which this is durable: the live replica is whole, and what is sealed, unless it can't be rolled back to.
abbrev pub is_whole_at : Durable → ℕ → Server → Bool
is_whole_at d chunk s = is_live_whole (slot_in chunk s).live && (is_seal_whole (sealed_of (slot_in chunk s)) || is_over d s.kept.epoch)

abbrev pub is_whole_there : Durable → ℕ → Option Server → Bool
is_whole_there d chunk None = false
is_whole_there d chunk (Some s) = is_whole_at d chunk s

abbrev pub whole_in : Durable → ℕ → List Server → ℕ → Bool
whole_in d chunk servers j = is_whole_there d chunk (slice_get servers j)

-- ---- the master

-- disks that wait tell what is shown
pub record ShowsTold {D : Type 0} (seen : D → List ℕ) (chunk : ℕ) (first second : D) (w : ChunkWorld) : Type 0 where
  pub durable : Durable
  pub kept : IsKept durable
  pub counters : AreCounters durable
  pub told : IsToldIn (standing (seen first) (seen second)) durable
  pub shows : ShowsDurable chunk durable w.entry

module _ {D : Type 0} (seen : D → List ℕ) where
  -- what it keeps is shown; or, where its disks wait, what they tell
  abbrev pub ShowsMaster : ℕ → MasterPlace D → ChunkWorld → Type 0
  ShowsMaster chunk (Standing m) w = entry.Shows chunk m.state w
  ShowsMaster chunk (Closed first second) w = ShowsTold seen chunk first second w
  ShowsMaster chunk Away w = ⊥

-- ---- the servers

-- the sizes of the store, and the epoch in which the chunk was born
abbrev pub setting : Config → (ReqId → List ℕ) → ℕ → Setting
setting config bytes born = record { block = config.block; size = config.chunk; bytes = bytes; born = born }

-- a server of this number in a store of this configuration, which has begun with nothing
pub record IsServer (config : Config) (id : ℕ) (s : Server) : Type 0 where
  pub me : s.me ≡ id
  pub block : s.block ≡ config.block
  pub size : s.chunk ≡ config.chunk
  pub reached : at_server.IsReached s

abbrev pub BufferRight : (ReqId → List ℕ) → Server → Type 0
BufferRight bytes s = (req : ReqId) (pushed : List ℕ) → Contains s.dropped.buffer (req, pushed) → pushed ≡ bytes req

-- ---- what stands of a store, whatever chunk is looked at

-- Each server is one of its number, and the bytes that were pushed for a request are its own.
pub record Keeps {D : Type 0} (config : Config) (bytes : ReqId → List ℕ) (h : History D) : Type 0 where
  pub servers : (id : ℕ) (s : Server) → slice_get h.nodes.servers id ≡ Some s → IsServer config id s
  pub buffers : (id : ℕ) (s : Server) → slice_get h.nodes.servers id ≡ Some s → BufferRight bytes s

-- digests tell what servers keep of the chunk from what it stands for
abbrev pub AreToldApart : {D : Type 0} → ℕ → History D → ChunkWorld → Type 0
AreToldApart chunk h w = (id : ℕ) (s : Server) → slice_get h.nodes.servers id ≡ Some s → IsToldApart s.block s.chunk (slot_in chunk s) (w.members id)

-- what each server keeps of the chunk is shown, and all that was ever sent says what was said in the machine
pub record ShowsNodes {D : Type 0} (config : Config) (bytes : ReqId → List ℕ) (born chunk : ℕ) (h : History D) (w : ChunkWorld) : Type 0 where
  pub members : (id : ℕ) (s : Server) → slice_get h.nodes.servers id ≡ Some s → ShowsPlace (setting config bytes born) w.known s.kept.epoch (place_of chunk s) (w.members id)
  pub sent : AllSent (ServersTell (setting config bytes born) chunk w) h.sent

module _ {D : Type 0} (seen : D → List ℕ) (config : Config) (bytes : ReqId → List ℕ) where
  -- ---- a chunk

  -- What each server keeps of the chunk is shown, and what the master keeps; and all that was ever sent says what was said in the machine.
  pub record ShowsStore (born chunk : ℕ) (h : History D) (w : ChunkWorld) : Type 0 where
    pub members : (id : ℕ) (s : Server) → slice_get h.nodes.servers id ≡ Some s → ShowsPlace (setting config bytes born) w.known s.kept.epoch (place_of chunk s) (w.members id)
    pub master : ShowsMaster seen chunk h.nodes.master w
    pub sent : AllSent (ServersTell (setting config bytes born) chunk w) h.sent

  -- a world of the machine, reached from the chunk's birth, shows the store
  pub record IsAlive (chunk : ℕ) (h : History D) : Type 0 where
    pub world : ChunkWorld
    pub reached : IsReached world
    pub shows : ShowsStore reached.0.epoch chunk h world

  abbrev pub Life : ℕ → History D → Type 0
  Life chunk h = IsUnborn seen chunk h ⊎ IsAlive chunk h
