-- Edits of a stored chunk. Each stored block that an edit touches is verified first. An edit touches the bytes from the
-- lesser of its offset and the old end to its own end.
use Rattle.std.specs.Prelude.{◌≡◌, ℕ, ◌+◌, ◌-◌, ◌*◌, ◌/◌, ◌%◌, ◌||◌, ◌==◌, Bool, cond, nat_lt, min, List, [], ◌∷◌, ◌++◌, length, take, drop, slice_index, slice_index_or, slice_set, Option, Some, None, Result, Ok, Err, refl}
use Rattle.gs_base.specs.declared.refusal.Refusal.{Refusal}
use Rattle.gs_base.specs.declared.refusal.Refusal.TheVariants.{Range, Damaged, BadLine}
use Rattle.gs_block.specs.Chunk.{written, appended, padded}
use Rattle.gs_block.specs.Stored.{Stored, empty, count_of, digests_from, digests_of, is_intact, first_damaged}

-- the new bytes, with the blocks between the two places digested anew
unfoldable pub with_bytes : Stored → ℕ → ℕ → List ℕ → Stored
with_bytes s at end bytes = record {
  block = s.block;
  chunk = s.chunk;
  bytes = bytes;
  digests = take (at / s.block) s.digests ++ (digests_from s.block bytes (at / s.block) (count_of s.block end - at / s.block) ++ drop (count_of s.block end) s.digests);
}

-- the lowest stored block without its digest among those that have a byte between the two places
unfoldable pub damaged_between : Stored → ℕ → ℕ → Option ℕ
damaged_between s at end = first_damaged s.block s.bytes s.digests (at / s.block) (min (count_of s.block end) (length s.digests) - at / s.block)

abbrev pub unless_damaged : {A : Type 0} → Option ℕ → A → Result A Refusal
unless_damaged None a = Ok a
unless_damaged (Some i) a = Err (Damaged i)

-- the new bytes between the two places, where each stored block that is touched has its digest
abbrev pub changed : Stored → ℕ → ℕ → List ℕ → Result Stored Refusal
changed s at end bytes = unless_damaged (damaged_between s at end) (with_bytes s at end bytes)

-- whether a piece has no bytes, or would end past the size of the chunk
abbrev pub is_outside : Stored → ℕ → List ℕ → Bool
is_outside s offset piece = (length piece == 0) || nat_lt s.chunk (offset + length piece)

-- Range for such a piece
abbrev pub out_of_range : Stored → ℕ → List ℕ → Option Refusal
out_of_range s offset piece = cond (is_outside s offset piece) (Some Range) None

abbrev pub write : Stored → ℕ → List ℕ → Result Stored Refusal
write s offset piece = cond (is_outside s offset piece) (Err Range)
    (changed s (min offset (length s.bytes)) (offset + length piece) (written offset piece s.bytes))

abbrev pub append : Stored → List ℕ → Result Stored Refusal
append s piece = cond (is_outside s (length s.bytes) piece) (Err Range)
    (changed s (length s.bytes) (length s.bytes + length piece) (appended piece s.bytes))

-- a full chunk is padded already
abbrev pub pad : Stored → Result Stored Refusal
pad s = cond (length s.bytes == s.chunk) (Ok s) (changed s (length s.bytes) s.chunk (padded s.chunk s.bytes))

-- The stored bytes of a range: fewer at the end. Range where it passes the size of the chunk.
abbrev pub read : Stored → ℕ → ℕ → Result (List ℕ) Refusal
read s offset many = cond (nat_lt s.chunk (offset + many)) (Err Range)
    (cond (nat_lt offset (min (offset + many) (length s.bytes)))
    (unless_damaged (damaged_between s offset (min (offset + many) (length s.bytes))) (take many (drop offset s.bytes)))
    (Ok []))

-- the stored digest of a block, where its bytes have it; no other block is verified
abbrev pub digest : Stored → ℕ → Result (List ℕ) Refusal
digest s i = cond (nat_lt i (length s.digests))
    (cond (is_intact s.block s.bytes s.digests i) (Ok (slice_index_or s.digests i [])) (Err (Damaged i)))
    (Err Range)

-- A chunk of these bytes, with their digests. Range where they pass the size of the chunk.
abbrev pub chunk_of : ℕ → ℕ → List ℕ → Result Stored Refusal
chunk_of block chunk bytes = cond (nat_lt chunk (length bytes)) (Err Range)
    (Ok (record { block = block; chunk = chunk; bytes = bytes; digests = digests_of block bytes }))

-- A chunk of these bytes under these digests, whatever the bytes digest to. Range where the bytes pass the size of the chunk,
-- and BadLine where the digests aren't as many as the blocks.
abbrev pub carried : ℕ → ℕ → List ℕ → List (List ℕ) → Result Stored Refusal
carried block chunk bytes digests = cond (nat_lt chunk (length bytes)) (Err Range)
    (cond (length digests == count_of block (length bytes)) (Ok (record { block = block; chunk = chunk; bytes = bytes; digests = digests }))
    (Err BadLine))

-- the same chunk, where every block has its digest
abbrev pub copied : Stored → Result Stored Refusal
copied s = unless_damaged (first_damaged s.block s.bytes s.digests 0 (length s.digests)) s

-- its bytes alone
abbrev pub copied_bytes : Stored → Result (List ℕ) Refusal
copied_bytes s = unless_damaged (first_damaged s.block s.bytes s.digests 0 (length s.digests)) s.bytes

-- 1 is added modulo 256 to the first byte of a block, and its digest stays
abbrev pub damage : Stored → ℕ → Result Stored Refusal
damage s i = cond (nat_lt i (length s.digests))
    (Ok (record {
      block = s.block;
      chunk = s.chunk;
      bytes = slice_set s.bytes (i * s.block) ((slice_index s.bytes (i * s.block) + 1) % 256);
      digests = s.digests;
    }))
    (Err Range)

abbrev bytes_of : Result Stored Refusal → Result (List ℕ) Refusal
bytes_of (Ok s) = Ok s.bytes
bytes_of (Err e) = Err e

-- a chunk of 16 bytes in blocks of 4
past_the_end : bytes_of (write (empty 4 16) 5 (98 ∷ [])) ≡ Ok (0 ∷ 0 ∷ 0 ∷ 0 ∷ 0 ∷ 98 ∷ [])
unfolding damaged_between with_bytes written count_of
past_the_end = refl

past_the_size : write (empty 4 16) 14 (1 ∷ 2 ∷ 3 ∷ []) ≡ Err Range
past_the_size = refl

no_bytes : append (empty 4 16) [] ≡ Err Range
no_bytes = refl

four_zeros : bytes_of (pad (empty 4 4)) ≡ Ok (0 ∷ 0 ∷ 0 ∷ 0 ∷ [])
unfolding damaged_between with_bytes count_of
four_zeros = refl

nothing_is_read : read (empty 4 16) 3 13 ≡ Ok []
nothing_is_read = refl

no_block : damage (empty 4 16) 0 ≡ Err Range
no_block = refl

no_digest : digest (empty 4 16) 0 ≡ Err Range
no_digest = refl

-- five bytes in two blocks of 4
carried_with_both_digests : bytes_of (carried 4 16 (1 ∷ 2 ∷ 3 ∷ 4 ∷ 5 ∷ []) ([] ∷ [] ∷ [])) ≡ Ok (1 ∷ 2 ∷ 3 ∷ 4 ∷ 5 ∷ [])
unfolding count_of
carried_with_both_digests = refl

a_digest_too_few : carried 4 16 (1 ∷ 2 ∷ 3 ∷ 4 ∷ 5 ∷ []) ([] ∷ []) ≡ Err BadLine
unfolding count_of
a_digest_too_few = refl

too_many_bytes : carried 4 4 (1 ∷ 2 ∷ 3 ∷ 4 ∷ 5 ∷ []) ([] ∷ [] ∷ []) ≡ Err Range
too_many_bytes = refl
