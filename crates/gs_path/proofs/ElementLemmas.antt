-- Hidden names, and what their parts are.
use Rattle.std.proofs.Common.{◌≡◌, ℕ, zero, suc, ◌-◌, ◌^◌, ◌<◌, ◌≤◌, ◌++◌, ◌∷◌, [], true, false, List, length, replicate, eqb, Some, refl, ap, ◌∙◌, arith}
use Rattle.std.proofs.Math.Seq.{take-append_seam, drop-append-add}
use Rattle.std.proofs.lemmas.Bool.{lt-ltb}
use Rattle.std.proofs.lemmas.Fmt.{length-decimal-le, digits_decimal, digits_value-decimal}
use Rattle.std.proofs.lemmas.List.{append-nil, length-append, length-replicate}
use Rattle.std.proofs.lemmas.Str.Parse.{IsNumeralModel, numerals_by_value, tells_all_ascii_digits}
use Rattle.std.specs.Fmt.{decimal, styled_decimal, format_spec, padded_integral, char_count}
use Rattle.std.specs.List.{position_or_len}
use Rattle.std.specs.Str.{all_ascii_digits}
use Rattle.std.specs.Str.Parse.{digits_value}
use Rattle.gs_path.specs.Path.{Name}
use Rattle.gs_path.specs.Element.{is_element, twenty_digits, hidden_name, number_of, before_point, after_point, parts_behind, hidden_parts}

pub digits : IsNumeralModel (λ ds. all_ascii_digits ds ≡ true) (digits_value 10)
digits = numerals_by_value _ tells_all_ascii_digits

-- what `{n:020}` writes
pub styled-twenty_digits : (n : ℕ) → styled_decimal (format_spec 32 0 4 20 18446744073709551615) n ≡ twenty_digits n
unfolding twenty_digits padded_integral char_count
styled-twenty_digits n =
    let less : 20 - length (decimal n) - 0 - 0 ≡ 20 - length (decimal n) = omega arith in
    rw (less, append-nil (decimal n))

length-twenty_digits : (n : ℕ) → n < 2 ^ 64 → length (twenty_digits n) ≡ 20
unfolding twenty_digits
length-twenty_digits n h =
    let short : length (decimal n) ≤ 20 = length-decimal-le 20 n (omega arith) (omega arith) h in
    rw (length-append, length-replicate) (omega arith)

all_digits-zeros : (k : ℕ) (ds : List ℕ) → all_ascii_digits ds ≡ true → all_ascii_digits (replicate k 48 ++ ds) ≡ true
all_digits-zeros zero ds h = h
all_digits-zeros (suc k) ds h = all_digits-zeros k ds h

value-zeros : (k : ℕ) (ds : List ℕ) → digits_value 10 (replicate k 48 ++ ds) ≡ digits_value 10 ds
value-zeros zero ds = refl
value-zeros (suc k) ds = value-zeros k ds

all_digits-twenty : (n : ℕ) → n < 2 ^ 64 → all_ascii_digits (twenty_digits n) ≡ true
unfolding twenty_digits
all_digits-twenty n h = all_digits-zeros (20 - length (decimal n)) (decimal n) (digits_decimal digits n h)

value-twenty : (n : ℕ) → n < 2 ^ 64 → digits_value 10 (twenty_digits n) ≡ n
unfolding twenty_digits
value-twenty n h = value-zeros (20 - length (decimal n)) (decimal n) ∙ digits_value-decimal digits n h

-- what number_of answers, where its three tests are known
number_is : (ds : List ℕ) (n : ℕ) → length ds ≡ 20 → all_ascii_digits ds ≡ true → digits_value 10 ds ≡ n → n < 2 ^ 64 → number_of ds ≡ Some n
number_is ds n len all value small =
    rw (len, all, value, lt-ltb n (2 ^ 64) small)

number_of-twenty_digits : (n : ℕ) → n < 2 ^ 64 → number_of (twenty_digits n) ≡ Some n
number_of-twenty_digits n h = number_is (twenty_digits n) n (length-twenty_digits n h) (all_digits-twenty n h) (value-twenty n h) h

-- digits hold no point
point_at : (ds rest : List ℕ) → all_ascii_digits ds ≡ true → position_or_len (λ b. eqb b 46) (ds ++ 46 ∷ rest) ≡ length ds
point_at [] rest h = refl
point_at (d ∷ ds) rest h =
    let parts = tells_all_ascii_digits.parts d ds h in
    let other : eqb d 46 ≡ false = grind (arith, parts.0) in
    let more : position_or_len (λ b. eqb b 46) (ds ++ 46 ∷ rest) ≡ length ds = point_at ds rest parts.1 in
    rw (other, more) (omega arith)

before-digits : (ds rest : List ℕ) → all_ascii_digits ds ≡ true → before_point (ds ++ 46 ∷ rest) ≡ ds
before-digits ds rest h = rw (point_at ds rest h) (take-append_seam ds (46 ∷ rest))

after-digits : (ds rest : List ℕ) → all_ascii_digits ds ≡ true → after_point (ds ++ 46 ∷ rest) ≡ rest
after-digits ds rest h = rw (point_at ds rest h) (drop-append-add ds (46 ∷ rest) 1)

made : (text moment number old : List ℕ) (m k : ℕ) → before_point text ≡ moment → before_point (after_point text) ≡ number → after_point (after_point text) ≡ old → number_of moment ≡ Some m → number_of number ≡ Some k → is_element old ≡ true → parts_behind text ≡ Some (m, k, old)
made text moment number old m k e f g a b h = rw (e, f, g, a, b, h)

-- the parts of a hidden name are those that it is made of
pub hidden_parts-hidden_name : (m k : ℕ) (old : Name) → m < 2 ^ 64 → k < 2 ^ 64 → is_element old ≡ true → hidden_parts (hidden_name m k old) ≡ Some (m, k, old)
hidden_parts-hidden_name m k old hm hk h =
    let rest = twenty_digits k ++ 46 ∷ old in
    let text = twenty_digits m ++ 46 ∷ rest in
    let first : after_point text ≡ rest = after-digits (twenty_digits m) rest (all_digits-twenty m hm) in
    made text (twenty_digits m) (twenty_digits k) old m k
    (before-digits (twenty_digits m) rest (all_digits-twenty m hm))
    (ap before_point first ∙ before-digits (twenty_digits k) old (all_digits-twenty k hk))
    (ap after_point first ∙ after-digits (twenty_digits k) old (all_digits-twenty k hk))
    (number_of-twenty_digits m hm) (number_of-twenty_digits k hk) h
