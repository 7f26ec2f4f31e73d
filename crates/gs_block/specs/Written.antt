-- Chunks that were written with some bytes and may be damaged since, and digests that tell blocks apart.
use Rattle.std.specs.Prelude.{◌≡◌, ℕ, Bool, true, List, length, refl}
use Rattle.sha2.specs.Sha256.{sha256}
use Rattle.gs_block.specs.Stored.{Stored, IsStored, block_at, digest_at, digests_of}

-- as many bytes, under the digests of those that were written
pub record WasWritten (s : Stored) (bytes : List ℕ) : Type 0 where
  pub stored : IsStored s
  pub long : length s.bytes ≡ length bytes
  pub digests : s.digests ≡ digests_of s.block bytes

-- the same bytes in each block of two texts where both have the same digest
abbrev pub ToldApart : ℕ → List ℕ → List ℕ → Type 0
ToldApart size xs ys = (i : ℕ) → digest_at size xs i ≡ digest_at size ys i → block_at size i xs ≡ block_at size i ys

-- different blocks among some have different digests
abbrev pub TellsApart : (List ℕ → Bool) → Type 0
TellsApart among = (xs ys : List ℕ) → among xs ≡ true → among ys ≡ true → sha256 xs ≡ sha256 ys → xs ≡ ys

-- each block of a text is among them
abbrev pub HasBlocks : ℕ → (List ℕ → Bool) → List ℕ → Type 0
HasBlocks size among bytes = (i : ℕ) → among (block_at size i bytes) ≡ true

-- a text is told apart from itself
told_from_itself : (size : ℕ) (xs : List ℕ) → ToldApart size xs xs
told_from_itself size xs i same = refl
