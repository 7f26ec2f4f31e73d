-- Steps of a search for the lowest damaged block.
use Rattle.std.proofs.Common.{◌≡◌, ℕ, ◌+◌, ◌-◌, ◌*◌, ◌/◌, ◌%◌, ◌<◌, ◌≤◌, arith, refl, sym, ap, List, [], ◌∷◌, ◌++◌, take, drop, true, false, cond, zero, suc, ◌∙◌}
use Rattle.std.specs.Prelude.{Some, None, slice_index_or}
use Rattle.std.specs.Str.{bytes_eq}
use Rattle.std.proofs.lemmas.List.{drop-drop, drop-take}
use Rattle.std.proofs.lemmas.Nat.{div-add-mod'}
use Rattle.std.proofs.Math.Nat.{mod-lt}
use Rattle.std.proofs.Math.Seq.{take-nil}
use Rattle.sha2.specs.Sha256.{sha256}
use Rattle.gs_block.specs.Stored.{is_intact, digest_at, first_damaged}

pub damaged_step : (size : ℕ) (bytes : List ℕ) (digests : List (List ℕ)) (i end : ℕ) → i < end →
    first_damaged size bytes digests i (end - i) ≡ cond (is_intact size bytes digests i) (first_damaged size bytes digests (i + 1) (end - (i + 1))) (Some i)
damaged_step size bytes digests i end below =
    let e : end - i ≡ suc (end - (i + 1)) = omega arith in
    ap (first_damaged size bytes digests i) e

pub damaged_more : (size : ℕ) (bytes : List ℕ) (digests : List (List ℕ)) (i end : ℕ) → i < end → is_intact size bytes digests i ≡ true →
    first_damaged size bytes digests i (end - i) ≡ first_damaged size bytes digests (i + 1) (end - (i + 1))
damaged_more size bytes digests i end below intact = damaged_step size bytes digests i end below ∙ rw intact refl

pub damaged_here : (size : ℕ) (bytes : List ℕ) (digests : List (List ℕ)) (i end : ℕ) → i < end → is_intact size bytes digests i ≡ false →
    first_damaged size bytes digests i (end - i) ≡ Some i
damaged_here size bytes digests i end below broken = damaged_step size bytes digests i end below ∙ rw broken refl

pub damaged_none : (size : ℕ) (bytes : List ℕ) (digests : List (List ℕ)) (i end : ℕ) → end ≤ i → first_damaged size bytes digests i (end - i) ≡ None
damaged_none size bytes digests i end le = let e : end - i ≡ 0 = omega arith in ap (first_damaged size bytes digests i) e

take_split : {A : Type 0} (r k : ℕ) (xs : List A) → take (r + k) xs ≡ take r xs ++ take k (drop r xs)
take_split zero k xs = ap (λ n. take n xs) (let e : 0 + k ≡ k = omega arith in e)
take_split (suc r) k [] = take-nil (suc r + k) ∙ sym (take-nil k)
take_split (suc r) k (x ∷ xs) =
    let e : suc r + k ≡ suc (r + k) = omega arith in
    ap (λ n. take n (x ∷ xs)) e ∙ ap (λ ys. x ∷ ys) (take_split r k xs)

-- a place's block is what stands before the place and the rest
pub whole_at : (size : ℕ) (bytes : List ℕ) (at : ℕ) → 1 ≤ size →
    take (at % size) (drop (at / size * size) bytes) ++ take (size - at % size) (drop at bytes) ≡ take size (drop (at / size * size) bytes)
whole_at size bytes at some =
    let e : at / size * size + at % size ≡ at = div-add-mod' at size in
    let below : at % size < size = mod-lt at some in
    let l : at % size + (size - at % size) ≡ size = omega arith in
    ap (λ n. take (at % size) (drop (at / size * size) bytes) ++ take (size - at % size) (drop n bytes)) (sym e)
    ∙ ap (λ ys. take (at % size) (drop (at / size * size) bytes) ++ take (size - at % size) ys) (sym (drop-drop (at % size) (at / size * size) bytes))
    ∙ sym (take_split (at % size) (size - at % size) (drop (at / size * size) bytes))
    ∙ ap (λ n. take n (drop (at / size * size) bytes)) l

-- the digest by parts is the block's
pub head_intact : (size : ℕ) (bytes : List ℕ) (digests : List (List ℕ)) (at : ℕ) → 1 ≤ size →
    bytes_eq (sha256 (take (at % size) (drop (at / size * size) bytes) ++ take (size - at % size) (drop at bytes))) (slice_index_or digests (at / size) []) ≡ is_intact size bytes digests (at / size)
unfolding is_intact digest_at
head_intact size bytes digests at some = ap (λ b. bytes_eq (sha256 b) (slice_index_or digests (at / size) [])) (whole_at size bytes at some)

-- what stands before a place in its block is the same in all bytes that are the same up to the place
pub head_same : (size : ℕ) (old new : List ℕ) (at : ℕ) → take at old ≡ take at new →
    take (at % size) (drop (at / size * size) old) ≡ take (at % size) (drop (at / size * size) new)
head_same size old new at same =
    let e : at / size * size + at % size ≡ at = div-add-mod' at size in
    sym (drop-take (at / size * size) (at % size) old)
    ∙ ap (drop (at / size * size)) (ap (λ n. take n old) e ∙ same ∙ ap (λ n. take n new) (sym e))
    ∙ drop-take (at / size * size) (at % size) new
