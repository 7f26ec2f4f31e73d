-- The bytes of a chunk as they are stored: in blocks, of which the last may be short, each with the digest that was taken
-- when it was last written.
use Rattle.std.specs.Prelude.{◌≡◌, ℕ, ◌+◌, ◌-◌, ◌*◌, ◌/◌, ◌≤◌, ◌==◌, ◌&&◌, is_none, Bool, cond, List, [], ◌∷◌, length, take, drop, map, slice_index_or, Option, Some, None, refl, zero, suc}
use Rattle.std.specs.List.{range_with_len}
use Rattle.std.specs.Str.{bytes_eq}
use Rattle.sha2.specs.Sha256.{sha256}

pub record Stored : Type 0 where
  -- the bytes of a block, and the most bytes of the chunk
  pub block : ℕ
  pub chunk : ℕ
  pub bytes : List ℕ
  pub digests : List (List ℕ)

-- the blocks that so many bytes take
unfoldable pub count_of : ℕ → ℕ → ℕ
count_of size many = (many + size - 1) / size

-- block i of the bytes
abbrev pub block_at : ℕ → ℕ → List ℕ → List ℕ
block_at size i bytes = take size (drop (i * size) bytes)

unfoldable pub digest_at : ℕ → List ℕ → ℕ → List ℕ
digest_at size bytes i = sha256 (block_at size i bytes)

-- the digests of as many blocks from the first on
abbrev pub digests_from : ℕ → List ℕ → ℕ → ℕ → List (List ℕ)
digests_from size bytes first many = map (digest_at size bytes) (range_with_len first many)

-- the digests of all blocks
abbrev pub digests_of : ℕ → List ℕ → List (List ℕ)
digests_of size bytes = digests_from size bytes 0 (count_of size (length bytes))

-- whether a block has the digest that is stored
unfoldable pub is_intact : ℕ → List ℕ → List (List ℕ) → ℕ → Bool
is_intact size bytes digests i = bytes_eq (digest_at size bytes i) (slice_index_or digests i [])

-- the lowest block without its digest among as many from the first on
abbrev pub first_damaged : ℕ → List ℕ → List (List ℕ) → ℕ → ℕ → Option ℕ
first_damaged size bytes digests first zero = None
first_damaged size bytes digests first (suc many) =
    cond (is_intact size bytes digests first) (first_damaged size bytes digests (first + 1) many) (Some first)

-- whether these are the digests of all blocks
abbrev pub are_digests : ℕ → List ℕ → List (List ℕ) → Bool
are_digests size bytes digests =
    (length digests == count_of size (length bytes)) && is_none (first_damaged size bytes digests 0 (count_of size (length bytes)))

-- what every chunk in memory keeps: sizes as a configuration allows them, and one digest for each block
pub record IsStored (s : Stored) : Type 0 where
  pub some_block : 1 ≤ s.block
  pub block_fits : s.block ≤ 65536
  pub chunk_fits : s.chunk ≤ 67108864
  pub bytes_fit : length s.bytes ≤ s.chunk
  pub each : length s.digests ≡ count_of s.block (length s.bytes)

-- a chunk without bytes
abbrev pub empty : ℕ → ℕ → Stored
empty block chunk = record { block = block; chunk = chunk; bytes = []; digests = [] }

three_blocks : count_of 4 9 ≡ 3
unfolding count_of
three_blocks = refl

no_block : count_of 4 0 ≡ 0
unfolding count_of
no_block = refl

last_block : block_at 4 1 (1 ∷ 2 ∷ 3 ∷ 4 ∷ 5 ∷ 6 ∷ []) ≡ 5 ∷ 6 ∷ []
last_block = refl
