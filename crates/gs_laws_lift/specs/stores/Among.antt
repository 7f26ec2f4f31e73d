-- Of which blocks the texts of replicas and of lists are.
use Rattle.std.specs.Prelude.{◌≡◌, ℕ, Bool, List, Some, slice_get, take}
use Rattle.gs_block.specs.Written.{HasBlocks}
use Rattle.gs_replica.specs.Seals.{Sealed}
use Rattle.gs_replica.specs.Stands.{replica_of}
use Rattle.gs_server.specs.Runs.{slot_in}
use Rattle.gs_server.specs.Servers.{Server}
use Rattle.gs_store.specs.Slots.{Live, Slot, sealed_of}
use Rattle.gs_laws_chunk.specs.machine.Machine.{ChunkWorld}

-- each block that a server has of a chunk is among them, and each that undoing gives
pub record SlotAmong (among : List ℕ → Bool) (block : ℕ) (s : Slot) : Type 0 where
  pub live : (l : Live) → s.live ≡ Some l → HasBlocks block among l.replica.held.chunk.bytes
  pub seal : (t : Sealed) → sealed_of s ≡ Some t → HasBlocks block among t.undone.bytes

-- and so is each block of what the first edits of any list give
abbrev pub TextsAmong : (List ℕ → Bool) → ℕ → ℕ → ChunkWorld → Type 0
TextsAmong among block size w = (stamp many : ℕ) → HasBlocks block among (replica_of size (take many (w.known.list stamp))).bytes

-- each block that any server has of a chunk is among them
abbrev pub AllAmong : (List ℕ → Bool) → ℕ → ℕ → List Server → Type 0
AllAmong among block chunk servers = (id : ℕ) (s : Server) → slice_get servers id ≡ Some s → SlotAmong among block (slot_in chunk s)
