-- The text of a name, or of a digest, is one word.
use Rattle.std.proofs.Common.{◌≡◌, ℕ, zero, suc, ◌/◌, ◌%◌, ◌<◌, Bool, true, List, [], ◌∷◌, nat_lt, slice_index, Some, inl, inr, refl, ap, arith}
use Rattle.std.specs.Prelude.{◌&&◌}
use Rattle.std.specs.Result.{result_ok}
use Rattle.std.proofs.lemmas.Bool.{and_from, and_parts, cases_lt}
use Rattle.hex.specs.Hex.{IsBytes, encode_lower, encode_with, lower_digits}
use Rattle.hex.proofs.HexLemmas.{decode_sized-encode_lower}
use Rattle.gs_keep_head.specs.Head.{IsName, IsSum, name_of, sum_of}
use Rattle.gs_keep_head.proofs.Splitting.{plain}

-- the digit at a place of the table may stand in a word
abbrev plain_at : ℕ → Bool
plain_at d = nat_lt 32 (slice_index lower_digits d) && nat_lt (slice_index lower_digits d) 128

all_below : ℕ → Bool
all_below zero = true
all_below (suc n) = plain_at n && all_below n

all_plain : all_below 16 ≡ true
unfolding all_below
all_plain = refl

below : (n d : ℕ) → all_below n ≡ true → d < n → plain_at d ≡ true
unfolding all_below
below zero d all small = absurd (omega arith)
below (suc n) d all small =
    let parts = and_parts (plain_at n) (all_below n) all in
    elim (cases_lt d n) [
      | inl less ↦ below n d parts.1 less
      | inr top ↦
          let same : d ≡ n = omega arith in
          rw same parts.0
    ]

pub plain_name : (bytes : List ℕ) → IsBytes bytes → plain (encode_lower bytes) ≡ true
unfolding encode_with
plain_name [] fits = refl
plain_name (b ∷ bytes) fits =
    let small : b < 256 = fits 0 in
    and_from (plain_at (b / 16)) _ (below 16 (b / 16) all_plain (omega arith))
    (and_from (plain_at (b % 16)) _ (below 16 (b % 16) all_plain (omega arith)) (plain_name bytes (λ i. fits (suc i))))

-- a name is read as it is written
pub name_read : (bytes : List ℕ) → IsName bytes → name_of (encode_lower bytes) ≡ Some bytes
name_read bytes name = ap result_ok (decode_sized-encode_lower bytes 16 name.0 name.1)

-- so is a digest
pub sum_read : (bytes : List ℕ) → IsSum bytes → sum_of (encode_lower bytes) ≡ Some bytes
sum_read bytes sum = ap result_ok (decode_sized-encode_lower bytes 32 sum.0 sum.1)
