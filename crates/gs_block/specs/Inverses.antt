-- What takes an edit of a stored chunk back.
use Rattle.std.specs.Prelude.{ℕ, ◌+◌, ◌-◌, ◌/◌, ◌==◌, ◌&&◌, Bool, cond, nat_le, max, List, ◌++◌, length, take, drop, Result, Ok, Err}
use Rattle.gs_base.specs.declared.refusal.Refusal.{Refusal}
use Rattle.gs_base.specs.declared.refusal.Refusal.TheVariants.{BadLine}
use Rattle.gs_block.specs.Stored.{Stored, count_of}

pub record Inverse : Type 0 where
  -- where the edit began, and the lengths before and after it
  pub at : ℕ
  pub old_length : ℕ
  pub new_length : ℕ
  -- the bytes that the edit overwrote, and the digests of the stored blocks that it touched
  pub bytes : List ℕ
  pub digests : List (List ℕ)

-- the items from a place on replaced by as many others
abbrev pub replaced : {A : Type 0} → List A → ℕ → List A → List A
replaced xs at ys = take at xs ++ (ys ++ drop (at + length ys) xs)

-- the length is that which the edit left, and what the inverse holds lies below the length that it found
unfoldable pub fits : Inverse → Stored → Bool
fits i s = (length s.bytes == i.new_length) && (nat_le i.old_length i.new_length && (nat_le (i.at + length i.bytes) i.old_length
    && nat_le (i.at / s.block + length i.digests) (count_of s.block i.old_length)))

unfoldable pub restored : Inverse → Stored → Stored
restored i s = record {
  block = s.block;
  chunk = s.chunk;
  bytes = take i.old_length (replaced s.bytes i.at i.bytes);
  digests = take (count_of s.block i.old_length) (replaced s.digests (i.at / s.block) i.digests);
}

-- BadLine where the inverse doesn't fit
abbrev pub undo : Inverse → Stored → Result Stored Refusal
undo i s = cond (fits i s) (Ok (restored i s)) (Err BadLine)

-- what takes back an edit of the bytes between two places, which leaves so many bytes
unfoldable pub inverse_of : Stored → ℕ → ℕ → Inverse
inverse_of s at end = record {
  at = at;
  old_length = length s.bytes;
  new_length = max (length s.bytes) end;
  bytes = take (end - at) (drop at s.bytes);
  digests = take (count_of s.block end - at / s.block) (drop (at / s.block) s.digests);
}
