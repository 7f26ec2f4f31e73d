-- Bytes are written one by one, each by its two digits.
use Rattle.std.proofs.Common.{◌≡◌, ◌≢◌, ℕ, zero, suc, ◌+◌, ◌/◌, ◌%◌, ◌^◌, ◌-◌, ◌<◌, Bool, true, false, eqb, List, [], ◌∷◌, ◌++◌, take, length, get_or, refl, sym, ap, subst, ◌∙◌, ⊎_elim, arith}
use Rattle.std.proofs.lemmas.Bool.{cases_eq, eqb-true, and_parts}
use Rattle.std.proofs.lemmas.Fmt.{hex_byte}
use Rattle.std.proofs.lemmas.List.{take_more}
use Rattle.std.specs.Fmt.{digits, digit_glyph, padded_integral, format_spec}
use Rattle.std.specs.Prelude.{◌&&◌, slice_index}
use Rattle.hex.specs.Hex.{encode_with, encode_lower, lower_digits}

all_below : (ℕ → Bool) → ℕ → Bool
all_below p zero = true
all_below p (suc k) = p k && all_below p k

one_below : (p : ℕ → Bool) (k n : ℕ) → all_below p k ≡ true → n < k → p n ≡ true
unfolding all_below
one_below p zero n all below = absurd (omega arith)
one_below p (suc k) n all below =
    let parts = and_parts (p k) (all_below p k) all in
    ⊎_elim
    (λ (here : n ≡ k). subst (λ x. p x ≡ true) (sym here) parts.0)
    (λ (other : n ≢ k). one_below p k n parts.1 (omega arith))
    (cases_eq n k)

same_glyph : ℕ → Bool
same_glyph n = eqb (digit_glyph false n) (slice_index lower_digits n)

all_same : all_below same_glyph 16 ≡ true
unfolding all_below same_glyph
all_same = refl

glyph : (n : ℕ) → n < 16 → digit_glyph false n ≡ slice_index lower_digits n
unfolding same_glyph
glyph n below = eqb-true _ _ (one_below same_glyph 16 n all_same below)

pub two_digits : (n : ℕ) → n < 256 → padded_integral (format_spec 32 0 4 2 (2 ^ 64 - 1)) false [] (digits 16 false n) ≡ encode_lower (n ∷ [])
unfolding encode_with
two_digits n small = hex_byte false n small ∙ ap (λ x. x ∷ digit_glyph false (n % 16) ∷ []) (glyph (n / 16) (omega arith)) ∙ ap (λ x. slice_index lower_digits (n / 16) ∷ x ∷ []) (glyph (n % 16) (omega arith))

encode-append : (t xs ys : List ℕ) → encode_with t (xs ++ ys) ≡ encode_with t xs ++ encode_with t ys
unfolding encode_with
encode-append t [] ys = refl
encode-append t (x ∷ xs) ys = ap (λ l. slice_index t (x / 16) ∷ slice_index t (x % 16) ∷ l) (encode-append t xs ys)

pub no_bytes : [] ≡ encode_lower []
unfolding encode_with
no_bytes = refl

pub one_byte_more : (bytes : List ℕ) (i : ℕ) → i < length bytes → encode_lower (take i bytes) ++ encode_lower (get_or bytes i 0 ∷ []) ≡ encode_lower (take (i + 1) bytes)
one_byte_more bytes i low = sym (encode-append lower_digits (take i bytes) (get_or bytes i 0 ∷ [])) ∙ ap encode_lower (sym (take_more bytes i 0 low))
