-- What the client's `read` comes to: its pieces are the bytes of the file as they are seen.
use Rattle.std.proofs.Common.{append-nil, arith, ap, inl, inr, sym, ◌∙◌}
use Rattle.std.proofs.lemmas.List.{drop-append-le, drop-replicate, length-drop, take-append-le, take-replicate}
use Rattle.std.specs.Prelude.{[], ◌*◌, ◌++◌, ◌+◌, ◌-◌, ◌<◌, ◌∷◌, ◌≡◌, ◌≤◌, ◌⊎◌, List, drop, length, min, refl, replicate, slice_get, suc, take, zero, ℕ}
use Rattle.gs_block.specs.Chunk.{padded}
use Rattle.gs_client_part.specs.Reading.{filled}
use Rattle.gs_laws_plain.specs.commands.Commands.{joined}
use Rattle.gs_laws_scripts.specs.explained.Lines.{seen_each}
use Rattle.gs_laws_scripts.specs.explained.Machine.{Text}
use Rattle.gs_laws_scripts.specs.explained.Told.{AreWithin}
use Rattle.gs_laws_scripts.proofs.lemmas.explained.Statuses.{joined_one, padded_is, seen_many}

-- ---- lists

module _ {A : Type 0} where
  take_whole : (xs : List A) (n : ℕ) → n ≡ length xs → take n xs ≡ xs
  take_whole [] zero is = refl
  take_whole [] (suc n) is = absurd (omega arith)
  take_whole (x ∷ xs) zero is = absurd (omega arith)
  take_whole (x ∷ xs) (suc n) is = ap (λ ys. x ∷ ys) (take_whole xs n (omega arith))

  take_past : (xs ys : List A) (n more : ℕ) → n ≡ length xs + more → take n (xs ++ ys) ≡ xs ++ take more ys
  take_past [] ys n more is = (let same : n ≡ more = omega arith in ap (λ k. take k ys) same)
  take_past (x ∷ xs) ys zero more is = absurd (omega arith)
  take_past (x ∷ xs) ys (suc n) more is = ap (λ zs. x ∷ zs) (take_past xs ys n more (omega arith))

  drop_past : (xs ys : List A) (n more : ℕ) → n ≡ length xs + more → drop n (xs ++ ys) ≡ drop more ys
  drop_past [] ys n more is = (let same : n ≡ more = omega arith in ap (λ k. drop k ys) same)
  drop_past (x ∷ xs) ys zero more is = absurd (omega arith)
  drop_past (x ∷ xs) ys (suc n) more is = drop_past xs ys n more (omega arith)

take_front : (k : ℕ) (s : List ℕ) (z : ℕ) → k ≤ length s + z → filled k (take k s) ≡ take k (s ++ replicate z 0)
take_front zero s z fit = refl
take_front (suc k) [] z fit =
    let below : suc k ≤ z = omega arith in
    let same : suc k - 0 ≡ suc k = omega arith in
    ap (λ n. replicate {A = ℕ} n 0) same ∙ sym (take-replicate (suc k) z 0 below)
take_front (suc k) (x ∷ s) z fit =
    let same : suc k - suc (length (take k s)) ≡ k - length (take k s) = omega arith in
    ap (λ n. x ∷ (take k s ++ replicate n 0)) same ∙ ap (λ ys. x ∷ ys) (take_front k s z (omega arith))

filled_is : (k start : ℕ) (s : List ℕ) (z : ℕ) → start + k ≤ length s + z → filled k (take k (drop start s)) ≡ take k (drop start (s ++ replicate z 0))
filled_is k zero s z fit = take_front k s z (omega arith)
filled_is k (suc start) [] z fit = take_front k [] (z - suc start) (omega arith) ∙ ap (take k) (sym (drop-replicate (suc start) z 0))
filled_is k (suc start) (x ∷ s) z fit = filled_is k start s z (omega arith)

pub one_below : (m n : ℕ) → (m ≤ n) ⊎ (n ≤ m)
one_below zero n = inl (omega arith)
one_below (suc m) zero = inr (omega arith)
one_below (suc m) (suc n) = elim (one_below m n) [ inl below ↦ inl (omega arith) | inr below ↦ inr (omega arith) ]

-- a piece of a text that isn't the last, and what comes after it
pub piece_on : (size : ℕ) (s xs : List ℕ) (start long : ℕ) → length s ≤ size → start ≤ size
    → filled (min size long - start) (take (min size long - start) (drop start s)) ++ take (long - size) xs ≡ take (long - start) (drop start (padded size s ++ xs))
piece_on size s xs start long fit within =
    let k : ℕ = min size long - start in
    let many : length (padded size s) ≡ size = padded_is size s fit in
    let piece : filled k (take k (drop start s)) ≡ take k (drop start (padded size s)) = filled_is k start s (size - length s) (omega arith) in
    let left : drop start (padded size s ++ xs) ≡ drop start (padded size s) ++ xs = drop-append-le start (padded size s) xs (omega arith) in
    let rest : length (drop start (padded size s)) ≡ size - start = length-drop start (padded size s) ∙ ap (λ n. n - start) many in
    ap (λ ys. ys ++ take (long - size) xs) piece ∙ by_size k (drop start (padded size s)) refl rest (one_below size long) ∙ ap (take (long - start)) (sym left)
  where
    by_size : (k : ℕ) (d : List ℕ) → k ≡ min size long - start → length d ≡ size - start → (size ≤ long) ⊎ (long ≤ size) → take k d ++ take (long - size) xs ≡ take (long - start) (d ++ xs)
    by_size k d is rest (inl past) =
        let whole : k ≡ length d = omega arith in
        let more : long - start ≡ length d + (long - size) = omega arith in
        ap (λ ys. ys ++ take (long - size) xs) (take_whole d k whole) ∙ sym (take_past d xs (long - start) (long - size) more)
    by_size k d is rest (inr short) =
        let none : long - size ≡ 0 = omega arith in
        let same : k ≡ long - start = omega arith in
        let below : long - start ≤ length d = omega arith in
        ap (λ n. take k d ++ take n xs) none ∙ append-nil (take k d) ∙ ap (λ n. take n d) same ∙ sym (take-append-le (long - start) d xs below)

-- texts before a place are passed over
abbrev pub skips : ℕ → List (List ℕ) → List (List ℕ)
skips zero picks = picks
skips (suc i) picks = [] ∷ skips i picks

pub skipped : (size i start : ℕ) (picks : List (List ℕ)) (texts : List Text) → i < length texts → AreWithin size texts → drop (i * size + start) (joined size (seen_each size (skips i picks) texts)) ≡ drop start (joined size (seen_each size picks (drop i texts)))
skipped size zero start picks texts below fit = (let same : zero * size + start ≡ start = omega arith in ap (λ n. drop n (joined size (seen_each size picks texts))) same)
skipped size (suc i) start picks [] below fit = absurd (omega arith)
skipped size (suc i) start picks (text ∷ []) below fit = absurd (omega arith)
skipped size (suc i) start picks (text ∷ next ∷ texts) below fit =
    let all : List (List ℕ) = seen_each size (skips i picks) (next ∷ texts) in
    let long : length (padded size text.bytes) ≡ size = padded_is size text.bytes fit.0 in
    ap (drop (suc i * size + start)) (joined_one size text.bytes all (length texts) (seen_many size (skips i picks) (next ∷ texts)))
    ∙ drop_past (padded size text.bytes) (joined size all) (suc i * size + start) (i * size + start) (once_more i size start (length (padded size text.bytes)) long) ∙ skipped size i start picks (next ∷ texts) (omega arith) fit.1
  where
    once_more : (i size start long : ℕ) → long ≡ size → suc i * size + start ≡ long + (i * size + start)
    once_more i size start long is = grind arith

pub at_drop : (texts : List Text) (i k : ℕ) → slice_get (drop i texts) k ≡ slice_get texts (i + k)
at_drop texts zero k = (let same : k ≡ zero + k = omega arith in ap (slice_get texts) same)
at_drop [] (suc i) k = refl
at_drop (text ∷ texts) (suc i) k = (let same : suc (i + k) ≡ suc i + k = omega arith in at_drop texts i k ∙ ap (slice_get (text ∷ texts)) same)
