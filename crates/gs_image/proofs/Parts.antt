-- Images whose bytes are the same, part by part.
use Rattle.std.proofs.Common.{◌≡◌, ◌<◌, ◌≤◌, ◌+◌, ◌^◌, ◌++◌, ◌∷◌, [], ℕ, List, length, take, drop, refl, sym, ap, ◌∙◌, arith, append_assoc, append-nil, length-append}
use Rattle.std.specs.List.{flat_map}
use Rattle.std.proofs.lemmas.List.{drop_at, drop-drop, nil_from_length, take_at}
use Rattle.byteorder.specs.Endian.{big_number}
use Rattle.sha2.specs.Sha256.{sha256}
use Rattle.sha2.proofs.Facts256.{length-sha256}
use Rattle.gs_image.specs.Images.{AreParts, AreShort, body, front, number, part_written}
use Rattle.gs_image.specs.Refused.{digest_at, part_at}
use Rattle.gs_image.proofs.Numbers.{number_told}

-- ---- one part

pub length_told : (part rest : List ℕ) → length part < 2 ^ 64 → big_number 8 (part_written part ++ rest) ≡ length part
length_told part rest short = number_told (length part) ((part ++ sha256 part) ++ rest) short

pub part_long : (part rest : List ℕ) → length (part_written part ++ rest) ≡ 40 + length part + length rest
part_long part rest =
    omega (arith, length-append (part_written part) rest, length-append (number (length part)) (part ++ sha256 part), length-append part (sha256 part), length-sha256 part)

behind_number : (part rest : List ℕ) → drop 8 (part_written part ++ rest) ≡ part ++ (sha256 part ++ rest)
behind_number part rest = append_assoc part (sha256 part) rest

pub part_told : (part rest : List ℕ) → length part < 2 ^ 64 → part_at (part_written part ++ rest) ≡ part
part_told part rest short =
    ap (λ (n : ℕ). take n (drop 8 (part_written part ++ rest))) (length_told part rest short)
    ∙ ap (λ (l : List ℕ). take (length part) l) (behind_number part rest)
    ∙ take_at part (sha256 part ++ rest) (length part) refl

pub digest_told : (part rest : List ℕ) → length part < 2 ^ 64 → digest_at (part_written part ++ rest) ≡ sha256 part
digest_told part rest short =
    ap (λ (n : ℕ). take 32 (drop (8 + n) (part_written part ++ rest))) (length_told part rest short)
    ∙ ap (λ (l : List ℕ). take 32 l) (sym (drop-drop (length part) 8 (part_written part ++ rest)))
    ∙ ap (λ (l : List ℕ). take 32 (drop (length part) l)) (behind_number part rest)
    ∙ ap (λ (l : List ℕ). take 32 l) (drop_at part (sha256 part ++ rest) (length part) refl)
    ∙ take_at (sha256 part) rest 32 (length-sha256 part)

pub rest_told : (part rest : List ℕ) → length part < 2 ^ 64 → drop (40 + big_number 8 (part_written part ++ rest)) (part_written part ++ rest) ≡ rest
rest_told part rest short =
    let whole : length (part_written part) ≡ 40 + length part =
    omega (arith, length-append (number (length part)) (part ++ sha256 part), length-append part (sha256 part), length-sha256 part) in
    ap (λ (n : ℕ). drop (40 + n) (part_written part ++ rest)) (length_told part rest short) ∙ drop_at (part_written part) rest (40 + length part) whole

part_same : (p q x y : List ℕ) → length p < 2 ^ 64 → length q < 2 ^ 64 → part_written p ++ x ≡ part_written q ++ y → (p ≡ q) × (x ≡ y)
part_same p q x y short short' same = (
  sym (part_told p x short) ∙ ap part_at same ∙ part_told q y short',
  sym (rest_told p x short) ∙ ap (λ (l : List ℕ). drop (40 + big_number 8 l) l) same ∙ rest_told q y short',
)

-- ---- parts

-- the first of two lists of parts is the front of the second
pub record GoesOn (ps qs : List (List ℕ)) (x y : List ℕ) : Type 0 where
  pub more : List (List ℕ)
  pub is : qs ≡ ps ++ more
  pub short : AreShort more
  pub behind : x ≡ flat_map part_written more ++ y

pub goes_on : (ps qs : List (List ℕ)) (x y : List ℕ) → AreShort ps → AreShort qs → length ps ≤ length qs → flat_map part_written ps ++ x ≡ flat_map part_written qs ++ y → GoesOn ps qs x y
goes_on [] qs x y short short' few same = record { more = qs; is = refl; short = short'; behind = same }
goes_on (p ∷ ps) [] x y short short' few same = absurd (omega (arith, few))
goes_on (p ∷ ps) (q ∷ qs) x y short short' few same =
    let f = flat_map part_written in
    let (first, rest) = part_same p q (f ps ++ x) (f qs ++ y) short.0 short'.0 (sym (append_assoc (part_written p) (f ps) x) ∙ same ∙ append_assoc (part_written q) (f qs) y) in
    let g = goes_on ps qs x y short.1 short'.1 (omega (arith, few)) rest in
    record { more = g.more; is = ap (λ (l : List ℕ). l ∷ qs) (sym first) ∙ ap (λ (l : List (List ℕ)). p ∷ l) g.is; short = g.short; behind = g.behind }

-- ---- images

pub front_same : (m n : ℕ) (x y : List ℕ) → m < 2 ^ 64 → n < 2 ^ 64 → front m ++ x ≡ front n ++ y → (m ≡ n) × (x ≡ y)
front_same m n x y fits fits' same =
    (sym (number_told m x fits) ∙ ap (λ (l : List ℕ). big_number 8 (drop 19 l)) same ∙ number_told n y fits', ap (λ (l : List ℕ). drop 27 l) same)

none_more : (ps qs more : List (List ℕ)) → qs ≡ ps ++ more → length ps ≡ length qs → more ≡ []
none_more ps qs more is many = nil_from_length more (omega (arith, many, ap length is, length-append ps more))

pub bodies_same : (ps qs : List (List ℕ)) (x y : List ℕ) → AreParts ps → AreParts qs → body ps ++ x ≡ body qs ++ y → (ps ≡ qs) × (x ≡ y)
bodies_same ps qs x y are are' same =
    let f = flat_map part_written in
    let (many, rest) = front_same (length ps) (length qs) (f ps ++ x) (f qs ++ y) are.0 are'.0
    (sym (append_assoc (front (length ps)) (f ps) x) ∙ same ∙ append_assoc (front (length qs)) (f qs) y) in
    let g = goes_on ps qs x y are.1 are'.1 (omega (arith, many)) rest in
    let none = none_more ps qs g.more g.is many in
    (sym (g.is ∙ ap (λ (l : List (List ℕ)). ps ++ l) none ∙ append-nil ps), g.behind ∙ ap (λ (l : List (List ℕ)). f l ++ y) none)
