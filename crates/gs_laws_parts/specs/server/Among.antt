-- Blocks of a run that digests tell apart: those of what servers keep, and so of all lists.
use Rattle.std.specs.Prelude.{◌≡◌, ℕ, Bool, take, List, Some}
use Rattle.gs_block.specs.Written.{HasBlocks}
use Rattle.gs_replica.specs.Seals.{Sealed}
use Rattle.gs_replica.specs.Stands.{replica_of}
use Rattle.gs_store.specs.Slots.{Live, Slot, sealed_of}
use Rattle.gs_laws_chunk.specs.machine.Machine.{ChunkWorld}
use Rattle.gs_laws_parts.specs.server.Showing.{Setting}

-- each block of what a slot keeps is among these: of its live replica, and of what undoing gives
pub record KeepsAmong (among : List ℕ → Bool) (block : ℕ) (s : Slot) : Type 0 where
  pub live : (l : Live) → s.live ≡ Some l → HasBlocks block among l.replica.held.chunk.bytes
  pub image : (t : Sealed) → sealed_of s ≡ Some t → HasBlocks block among t.undone.bytes

-- each block of the text that the first edits of any list of a view give
abbrev pub ListsAmong : (List ℕ → Bool) → Setting → ChunkWorld → Type 0
ListsAmong among c w = (stamp many : ℕ) → HasBlocks c.block among (replica_of c.size (take many (w.known.list stamp))).bytes
