-- Numbers of eight bytes, and fronts of bytes.
use Rattle.std.proofs.Common.{◌≡◌, ◌<◌, ◌≤◌, ◌+◌, ◌^◌, ◌++◌, ◌∷◌, [], ℕ, List, length, take, drop, get_or, refl, sym, ap, ◌∙◌, arith, inl, inr}
use Rattle.std.specs.Int.{w64, from_be_bytes}
use Rattle.std.proofs.lemmas.Bool.{cases_lt}
use Rattle.std.proofs.lemmas.List.{get_or-drop, get_or-take, get_or_past, length-take, length-take-le}
use Rattle.std.proofs.lemmas.Nat.{be_bytes_8}
use Rattle.byteorder.specs.Endian.{big_number}
use Rattle.byteorder.specs.Numbers.{big_from-lt, big_from-take, big_number-reads_back}
use Rattle.gs_image.specs.Images.{number}

abbrev pub IsBytes : List ℕ → Type 0
IsBytes bytes = (i : ℕ) → get_or bytes i 0 < 256

pub bytes_drop : (n : ℕ) (bytes : List ℕ) → IsBytes bytes → IsBytes (drop n bytes)
bytes_drop n bytes h i = rw get_or-drop (h (n + i))

bytes_take : (n : ℕ) (bytes : List ℕ) → IsBytes bytes → IsBytes (take n bytes)
bytes_take n bytes h i =
    elim (cases_lt i n) [
      | inl lt ↦ rw (get_or-take n bytes i 0 lt) (h i)
      | inr le ↦ rw (get_or_past (take n bytes) i 0 (omega (arith, length-take n bytes))) (omega arith)
    ]

pub number_fits : (bytes : List ℕ) → IsBytes bytes → big_number 8 bytes < 2 ^ 64
number_fits bytes h = let k = big_from-lt 0 8 bytes h in omega (arith, k)

pub number_read : (bytes : List ℕ) → IsBytes bytes → 8 ≤ length bytes → number (big_number 8 bytes) ≡ take 8 bytes
number_read bytes h long =
    let front : big_number 8 (take 8 bytes) ≡ big_number 8 bytes = big_from-take 0 8 8 bytes (omega arith) in
    let same : big_number 8 (take 8 bytes) ≡ from_be_bytes w64 (take 8 bytes) = omega arith in
    be_bytes_8 (take 8 bytes) (big_number 8 bytes) (length-take-le 8 bytes long) (bytes_take 8 bytes h) (sym front ∙ same)

pub number_told : (n : ℕ) (rest : List ℕ) → n < 2 ^ 64 → big_number 8 (number n ++ rest) ≡ n
number_told n rest fits = big_number-reads_back 8 n rest (omega (arith, fits))

-- two parts of which the first are as long
pub split_front : (a b x y : List ℕ) → length a ≡ length b → a ++ x ≡ b ++ y → (a ≡ b) × (x ≡ y)
split_front [] [] x y long same = (refl, same)
split_front [] (d ∷ b) x y long same = absurd (omega (arith, long))
split_front (c ∷ a) [] x y long same = absurd (omega (arith, long))
split_front (c ∷ a) (d ∷ b) x y long same =
    let first : c ≡ d = ap (λ (l : List ℕ). get_or l 0 0) same in
    let (front, back) = split_front a b x y (omega (arith, long)) (ap (λ (l : List ℕ). drop 1 l) same) in
    (ap (λ (n : ℕ). n ∷ a) first ∙ ap (λ (l : List ℕ). d ∷ l) front, back)
