-- What the laws of this crate say of a chunk that was written with some bytes, under a premise: digests tell the stored blocks
-- from those that were written, where they differ.
use Rattle.std.specs.Prelude.{◌≡◌, ◌<◌, ℕ, List, Ok, None, length, take, drop, true}
use Rattle.gs_block.specs.Chunk.{written}
use Rattle.gs_block.specs.Stored.{Stored, block_at, is_intact, first_damaged}
use Rattle.gs_block.specs.Edits.{write, read}
use Rattle.gs_block.specs.Written.{WasWritten, ToldApart}

-- A write that is accepted edits what was written plainly.
abbrev pub WritesGoOn : Type 0
WritesGoOn = (s s2 : Stored) (bytes piece : List ℕ) (offset : ℕ) → WasWritten s bytes → ToldApart s.block s.bytes bytes → write s offset piece ≡ Ok s2
    → WasWritten s2 (written offset piece bytes)

-- A block with its digest holds what was written.
abbrev pub IntactBlocksHold : Type 0
IntactBlocksHold = (s : Stored) (bytes : List ℕ) (i : ℕ) → WasWritten s bytes → ToldApart s.block s.bytes bytes → i < length s.digests
    → is_intact s.block s.bytes s.digests i ≡ true → block_at s.block i s.bytes ≡ block_at s.block i bytes

-- So does what a read gives.
abbrev pub ReadsGiveWhatWasWritten : Type 0
ReadsGiveWhatWasWritten = (s : Stored) (bytes part : List ℕ) (offset many : ℕ) → WasWritten s bytes → ToldApart s.block s.bytes bytes → read s offset many ≡ Ok part
    → part ≡ take many (drop offset bytes)

-- So does the whole chunk, where no block is damaged.
abbrev pub UndamagedChunksHold : Type 0
UndamagedChunksHold = (s : Stored) (bytes : List ℕ) → WasWritten s bytes → ToldApart s.block s.bytes bytes → first_damaged s.block s.bytes s.digests 0 (length s.digests) ≡ None
    → s.bytes ≡ bytes
