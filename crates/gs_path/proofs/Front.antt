-- Texts whose fronts differ lie as their fronts do.
use Rattle.std.proofs.Common.{◌≢◌, ◌≡◌, ℕ, zero, suc, ◌+◌, ◌*◌, ◌<◌, ◌≤◌, List, [], ◌∷◌, get_or, refl, sym, ap, ◌∙◌, arith}
use Rattle.std.specs.declared.cmp.Ordering.{Ordering}
use Rattle.std.specs.declared.cmp.Ordering.TheVariants.{Less, Equal, Greater}
use Rattle.std.specs.Cmp.{ranks, nat_cmp_is}
use Rattle.std.specs.Cmp.Lexicographic.{slice_cmp}
use Rattle.std.specs.Ordering.{MatchOrdering, nat_cmp, ordering_then}
use Rattle.gs_path.specs.Front.{front_of, IsFront}

abbrev IsBytes : List ℕ → Type 0
IsBytes xs = (i : ℕ) → get_or xs i 0 < 256

-- the first n bytes as digits behind those of a
abbrev digits : ℕ → ℕ → List ℕ → ℕ
digits a zero xs = a
digits a (suc n) [] = digits (a * 256) n []
digits a (suc n) (x ∷ xs) = digits (a * 256 + x) n xs

front_digits : (xs : List ℕ) → front_of xs ≡ digits 0 8 xs
unfolding front_of
front_digits [] = refl
front_digits (a ∷ []) = omega arith
front_digits (a ∷ b ∷ []) = omega arith
front_digits (a ∷ b ∷ c ∷ []) = omega arith
front_digits (a ∷ b ∷ c ∷ d ∷ []) = omega arith
front_digits (a ∷ b ∷ c ∷ d ∷ e ∷ []) = omega arith
front_digits (a ∷ b ∷ c ∷ d ∷ e ∷ f ∷ []) = omega arith
front_digits (a ∷ b ∷ c ∷ d ∷ e ∷ f ∷ g ∷ []) = omega arith
front_digits (a ∷ b ∷ c ∷ d ∷ e ∷ f ∷ g ∷ h ∷ xs) = omega arith

-- ---- the order of two numbers of n more digits

least : (n a b : ℕ) (ys : List ℕ) → a ≤ b → digits a n [] ≤ digits b n ys
least zero a b ys le = le
least (suc n) a b [] le = least n (a * 256) (b * 256) [] (omega arith)
least (suc n) a b (y ∷ ys) le = least n (a * 256) (b * 256 + y) ys (omega arith)

rises : (n a b : ℕ) (xs ys : List ℕ) → IsBytes xs → a < b → digits a n xs < digits b n ys
rises zero a b xs ys h less = less
rises (suc n) a b [] [] h less = rises n (a * 256) (b * 256) [] [] h (omega arith)
rises (suc n) a b [] (y ∷ ys) h less = rises n (a * 256) (b * 256 + y) [] ys h (omega arith)
rises (suc n) a b (x ∷ xs) [] h less = rises n (a * 256 + x) (b * 256) xs [] (λ i. h (suc i)) (omega (arith, h 0))
rises (suc n) a b (x ∷ xs) (y ∷ ys) h less = rises n (a * 256 + x) (b * 256 + y) xs ys (λ i. h (suc i)) (omega (arith, h 0))

apart : (n a : ℕ) (xs ys : List ℕ) → IsBytes xs → IsBytes ys → digits a n xs ≢ digits a n ys → slice_cmp nat_cmp xs ys ≡ nat_cmp (digits a n xs) (digits a n ys)
apart zero a xs ys g h ne = absurd (ne refl)
apart (suc n) a [] [] g h ne = absurd (ne refl)
apart (suc n) a [] (y ∷ ys) g h ne =
    let le : digits (a * 256) n [] ≤ digits (a * 256 + y) n ys = least n (a * 256) (a * 256 + y) ys (omega arith) in
    let less : digits (a * 256) n [] < digits (a * 256 + y) n ys = omega (arith, ne) in
    nat_cmp_is _ _ Less less
apart (suc n) a (x ∷ xs) [] g h ne =
    let le : digits (a * 256) n [] ≤ digits (a * 256 + x) n xs = least n (a * 256) (a * 256 + x) xs (omega arith) in
    let less : digits (a * 256) n [] < digits (a * 256 + x) n xs = omega (arith, ne) in
    nat_cmp_is _ _ Greater less
apart (suc n) a (x ∷ xs) (y ∷ ys) g h ne =
    by (nat_cmp x y) (ranks x y) refl (apart n (a * 256 + x) xs ys (λ i. g (suc i)) (λ i. h (suc i)))
  where
    by : (r : Ordering) → MatchOrdering r (x < y) (x ≡ y) (y < x) → nat_cmp x y ≡ r
        → (digits (a * 256 + x) n xs ≢ digits (a * 256 + x) n ys → slice_cmp nat_cmp xs ys ≡ nat_cmp (digits (a * 256 + x) n xs) (digits (a * 256 + x) n ys))
        → slice_cmp nat_cmp (x ∷ xs) (y ∷ ys) ≡ nat_cmp (digits (a * 256 + x) n xs) (digits (a * 256 + y) n ys)
    by Less m e rest =
        let less : x < y = m in
        ap (λ r. ordering_then r (slice_cmp nat_cmp xs ys)) e ∙ nat_cmp_is _ _ Less (rises n (a * 256 + x) (a * 256 + y) xs ys (λ i. g (suc i)) (omega arith))
    by Greater m e rest =
        let less : y < x = m in
        ap (λ r. ordering_then r (slice_cmp nat_cmp xs ys)) e ∙ nat_cmp_is _ _ Greater (rises n (a * 256 + y) (a * 256 + x) ys xs (λ i. h (suc i)) (omega arith))
    by Equal m e rest =
        let same : x ≡ y = m in
        let number : a * 256 + y ≡ a * 256 + x = omega arith in
        let back = ap (λ b. digits b n ys) number in
        ap (λ r. ordering_then r (slice_cmp nat_cmp xs ys)) e
        ∙ rest (λ q. ne (q ∙ sym back))
        ∙ ap (nat_cmp (digits (a * 256 + x) n xs)) (sym back)

-- unequal fronts tell the order of the texts
pub cmp_by_front : (m n : ℕ) (xs ys : List ℕ) → IsFront m xs → IsFront n ys → m ≢ n → nat_cmp m n ≡ slice_cmp nat_cmp xs ys
cmp_by_front m n xs ys g h ne =
    let p : m ≡ digits 0 8 xs = g.is ∙ front_digits xs in
    let q : n ≡ digits 0 8 ys = h.is ∙ front_digits ys in
    ap (λ x. nat_cmp x n) p ∙ ap (nat_cmp (digits 0 8 xs)) q ∙ sym (apart 8 0 xs ys g.bytes h.bytes (λ e. ne (p ∙ e ∙ sym q)))
