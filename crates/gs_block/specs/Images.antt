-- First images: what takes a chunk back to where it was sealed, whatever edits came since.
use Rattle.std.specs.Prelude.{◌≡◌, ◌≤◌, ◌<◌, ℕ, ◌+◌, ◌-◌, ◌*◌, ◌/◌, ◌%◌, ◌&&◌, ◌||◌, cond, nat_lt, nat_le, min, is_some, Bool, true, false, List, [], ◌∷◌, length, take, drop, map, replicate, slice_index_or, Option, Some, None, Result, Ok, Err, IsTrue, refl, zero, suc}
use Rattle.std.specs.List.{range_with_len}
use Rattle.gs_base.specs.declared.refusal.Refusal.{Refusal}
use Rattle.gs_block.specs.Stored.{Stored, count_of}
use Rattle.gs_block.specs.Edits as edits
use Rattle.gs_block.specs.Inverses.{Inverse, fits, inverse_of, undo}
use Rattle.gs_block.specs.Kept.{Outside}

-- the length and the digests as sealed, and for each sealed block its bytes as sealed where an edit has touched it since
pub record Images : Type 0 where
  pub long : ℕ
  pub digests : List (List ℕ)
  pub blocks : List (Option (List ℕ))

-- no block has an image when a chunk is sealed
abbrev pub begun : Stored → Images
begun s = record { long = length s.bytes; digests = s.digests; blocks = replicate (length s.digests) None }

abbrev pub byte_of : Option (List ℕ) → ℕ → ℕ → ℕ
byte_of None within byte = byte
byte_of (Some image) within byte = slice_index_or image within 0

-- a byte as sealed: of its block's image, where there is one
unfoldable pub byte_before : ℕ → List (Option (List ℕ)) → List ℕ → ℕ → ℕ
byte_before size images bytes k = byte_of (slice_index_or images (k / size) None) (k % size) (slice_index_or bytes k 0)

unfoldable pub bytes_before : ℕ → List (Option (List ℕ)) → ℕ → List ℕ → List ℕ
bytes_before size images long bytes = map (byte_before size images bytes) (range_with_len 0 long)

-- what undoing gives: the bytes as sealed, with the sealed digests
abbrev pub undone : Images → Stored → Stored
undone i s = record { block = s.block; chunk = s.chunk; bytes = bytes_before s.block i.blocks i.long s.bytes; digests = i.digests }

-- the bytes of a block as far as they are sealed
unfoldable pub block_before : ℕ → ℕ → ℕ → List ℕ → List ℕ
block_before size long k bytes = take (min size (long - k * size)) (drop (k * size) bytes)

-- whether each sealed block was touched
abbrev pub touched : Images → List Bool
touched i = map is_some i.blocks

-- the blocks from the first on and below the last are touched too
unfoldable pub touch : ℕ → ℕ → List Bool → List Bool
touch first last xs = map (λ k. (nat_le first k && nat_lt k last) || slice_index_or xs k false) (range_with_len 0 (length xs))

-- whether as many blocks from the first on are touched, those aside that aren't sealed
abbrev pub all_touched : List Bool → ℕ → ℕ → Bool
all_touched xs first zero = true
all_touched xs first (suc many) = slice_index_or xs first true && all_touched xs (first + 1) many

-- whether an inverse fits, puts bytes into touched blocks alone, and cuts nothing that is sealed
unfoldable pub covers : ℕ → List Bool → Inverse → Stored → Bool
covers long xs i s = fits i s && (nat_le long i.old_length && all_touched xs (i.at / s.block) (count_of s.block (i.at + length i.bytes) - i.at / s.block))

-- the bytes of the images of touched blocks, from a block on
abbrev pub image_bytes : ℕ → ℕ → ℕ → List Bool → ℕ
image_bytes size long k [] = 0
image_bytes size long k (x ∷ xs) = cond x (min size (long - k * size)) 0 + image_bytes size long (k + 1) xs

-- damage of a chunk reaches what undoing gives where the block isn't touched
abbrev pub or_same : Result Stored Refusal → Stored → Stored
or_same (Ok s) old = s
or_same (Err e) old = old

abbrev pub damage_before : ℕ → List Bool → Stored → Stored
damage_before k xs s = cond (slice_index_or xs k true) s (or_same (edits.damage s k) s)

-- an image is as long as its block was sealed
abbrev pub IsImage : ℕ → Option (List ℕ) → Type 0
IsImage many None = Unit {0}
IsImage many (Some image) = length image ≡ many

-- images belong to a chunk that has at least the sealed bytes
pub record AreFirst (i : Images) (s : Stored) : Type 0 where
  pub some_block : 1 ≤ s.block
  pub counted : length i.blocks ≡ count_of s.block i.long
  pub each : length i.digests ≡ count_of s.block i.long
  pub within : i.long ≤ length s.bytes
  pub whole : (k : ℕ) → k < length i.blocks → IsImage (min s.block (i.long - k * s.block)) (slice_index_or i.blocks k None)

-- copies of blocks that had no image, from the first on
pub record Missing : Type 0 where
  pub first : ℕ
  pub copies : List (Option (List ℕ))

abbrev pub missing_of : Option (List ℕ) → List ℕ → Option (List ℕ)
missing_of None bytes = Some bytes
missing_of (Some image) bytes = None

unfoldable pub missing_at : ℕ → ℕ → List (Option (List ℕ)) → List ℕ → ℕ → Option (List ℕ)
missing_at size long images bytes k = missing_of (slice_index_or images k None) (block_before size long k bytes)

abbrev pub copies_from : ℕ → ℕ → List (Option (List ℕ)) → List ℕ → ℕ → ℕ → List (Option (List ℕ))
copies_from size long images bytes first many = map (missing_at size long images bytes) (range_with_len first many)

-- copies of the sealed blocks without an image that have a byte between the two places
unfoldable pub missing : Images → Stored → ℕ → ℕ → Missing
missing i s at end = record {
  first = at / s.block;
  copies = copies_from s.block i.long i.blocks s.bytes (at / s.block) (count_of s.block (min end i.long) - at / s.block);
}

-- ---- copies that are taken as images
-- These say what holds of the images when copies are taken that were missing before an edit of the bytes between two places.
-- What undoing gives stays, since the edit left the bytes outside its span.
abbrev pub UndoesTheSame : Images → Missing → Images → Type 0
UndoesTheSame old copies kept = (s new : Stored) → (start end : ℕ) → AreFirst old s → copies ≡ missing old s start end → Outside start end s new
    → undone kept new ≡ undone old s

-- The blocks of that span are touched too.
abbrev pub TouchesItsSpan : Images → Missing → Images → Type 0
TouchesItsSpan old copies kept = (s : Stored) → (start end : ℕ) → AreFirst old s → copies ≡ missing old s start end
    → touched kept ≡ touch (start / s.block) (count_of s.block end) (touched old)

-- The images cover the inverse of that edit.
abbrev pub CoversItsInverse : Images → Missing → Images → Type 0
CoversItsInverse old copies kept = (s new : Stored) → (start end : ℕ) → AreFirst old s → copies ≡ missing old s start end → Outside start end s new
    → start ≤ length s.bytes → start ≤ end → undo (inverse_of s start end) new ≡ Ok s → covers kept.long (touched kept) (inverse_of s start end) new ≡ true

-- Where a test says that an inverse is covered, what undoing gives stays when the inverse is taken back, and so do the images.
abbrev pub StaysWhenUndone : Images → Inverse → Stored → Bool → Type 0
StaysWhenUndone i inverse s is = (new : Stored) → IsTrue is → undo inverse s ≡ Ok new → AreFirst i s → (undone i new ≡ undone i s) × AreFirst i new

-- a chunk of 6 bytes in blocks of 4, sealed; then its first 5 bytes are overwritten
abbrev sealed_chunk : Stored
sealed_chunk = record { block = 4; chunk = 16; bytes = 1 ∷ 2 ∷ 3 ∷ 4 ∷ 5 ∷ 6 ∷ []; digests = [] ∷ [] ∷ [] }

abbrev overwritten : Stored
overwritten = record { block = 4; chunk = 16; bytes = 9 ∷ 9 ∷ 9 ∷ 9 ∷ 9 ∷ 6 ∷ 9 ∷ 9 ∷ 9 ∷ []; digests = [] ∷ [] ∷ [] ∷ [] }

copied_first : (missing (begun sealed_chunk) sealed_chunk 0 5).copies ≡ Some (1 ∷ 2 ∷ 3 ∷ 4 ∷ []) ∷ Some (5 ∷ 6 ∷ []) ∷ []
unfolding missing missing_at block_before count_of
copied_first = refl

gives_what_was_sealed : (undone (record { long = 6; digests = [] ∷ [] ∷ []; blocks = Some (1 ∷ 2 ∷ 3 ∷ 4 ∷ []) ∷ Some (5 ∷ 6 ∷ []) ∷ [] }) overwritten).bytes ≡ sealed_chunk.bytes
unfolding bytes_before byte_before
gives_what_was_sealed = refl

untouched_bytes_are_the_stored : (undone (begun sealed_chunk) sealed_chunk).bytes ≡ sealed_chunk.bytes
unfolding bytes_before byte_before
untouched_bytes_are_the_stored = refl

the_second_is_touched : touch 1 3 (false ∷ false ∷ []) ≡ false ∷ true ∷ []
unfolding touch
the_second_is_touched = refl

behind_the_sealed : all_touched (true ∷ true ∷ []) 1 3 ≡ true
behind_the_sealed = refl

not_all : all_touched (false ∷ true ∷ []) 0 2 ≡ false
not_all = refl

six_bytes_of_images : image_bytes 4 6 0 (true ∷ true ∷ []) ≡ 6
six_bytes_of_images = refl

a_touched_block_needs_no_copy : (missing (record { long = 6; digests = [] ∷ [] ∷ []; blocks = Some (1 ∷ 2 ∷ 3 ∷ 4 ∷ []) ∷ None ∷ [] }) overwritten 0 1).copies ≡ None ∷ []
unfolding missing missing_at block_before count_of
a_touched_block_needs_no_copy = refl

none_behind_the_sealed : (missing (record { long = 4; digests = [] ∷ []; blocks = None ∷ [] }) overwritten 4 9).copies ≡ []
unfolding missing missing_at block_before count_of
none_behind_the_sealed = refl

-- the last block of 6 bytes is short, and so is its image
an_image_of_the_last_block : IsImage (min 4 (6 - 1 * 4)) (Some (5 ∷ 6 ∷ []))
an_image_of_the_last_block = refl
