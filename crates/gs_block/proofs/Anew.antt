-- Digests that are taken anew one by one.
use Rattle.std.proofs.Common.{◌≡◌, ℕ, ◌+◌, ◌-◌, ◌*◌, ◌/◌, ◌%◌, ◌<◌, ◌≤◌, arith, sym, ap, subst, List, [], ◌++◌, take, drop, length, set, get_or, ◌∙◌}
use Rattle.std.proofs.Math.Seq.{paste}
use Rattle.std.proofs.lemmas.List.Edits.{paste_more, paste_all, paste_none}
use Rattle.std.proofs.lemmas.List.FromFn.{get_or-map-range_with_len, length-map-range_with_len}
use Rattle.std.proofs.lemmas.List.{take-append-drop}
use Rattle.sha2.specs.Sha256.{sha256}
use Rattle.gs_block.specs.Stored.{digest_at, digests_from}
use Rattle.gs_block.proofs.Verified.{whole_at}

-- the list with as many of its digests taken anew, from the first up to i
unfoldable pub anew_to : ℕ → List ℕ → List (List ℕ) → ℕ → ℕ → ℕ → List (List ℕ)
anew_to size bytes digests first last i = paste digests first (digests_from size bytes first (last - first)) (i - first)

pub anew_start : (size : ℕ) (bytes : List ℕ) (digests : List (List ℕ)) (first last : ℕ) → digests ≡ anew_to size bytes digests first last first
unfolding anew_to
anew_start size bytes digests first last =
    let e : first - first ≡ 0 = omega arith in
    paste_none digests first (digests_from size bytes first (last - first)) ∙ ap (paste digests first (digests_from size bytes first (last - first))) (sym e)

pub anew_more : (size : ℕ) (bytes : List ℕ) (digests : List (List ℕ)) (first last i : ℕ) → first ≤ i → i < last → last ≤ length digests →
    set (anew_to size bytes digests first last i) i (digest_at size bytes i) ≡ anew_to size bytes digests first last (i + 1)
unfolding anew_to
anew_more size bytes digests first last i low high within =
    let s = digests_from size bytes first (last - first) in
    let n : length s ≡ last - first = length-map-range_with_len (digest_at size bytes) first (last - first) in
    let at_i : first + (i - first) ≡ i = omega arith in
    let next : i - first + 1 ≡ i + 1 - first = omega arith in
    let here : get_or s (i - first) [] ≡ digest_at size bytes i = get_or-map-range_with_len (digest_at size bytes) first (last - first) (i - first) i [] (omega arith) at_i in
    ap (λ k. set (paste digests first s (i - first)) k (digest_at size bytes i)) (sym at_i)
    ∙ ap (set (paste digests first s (i - first)) (first + (i - first))) (sym here)
    ∙ paste_more digests first s (i - first) [] (omega arith) (omega arith)
    ∙ ap (paste digests first s) next

pub anew_done : (size : ℕ) (bytes : List ℕ) (digests : List (List ℕ)) (first last : ℕ) → first ≤ last →
    anew_to size bytes digests first last last ≡ take first digests ++ (digests_from size bytes first (last - first) ++ drop last digests)
unfolding anew_to
anew_done size bytes digests first last le =
    let s = digests_from size bytes first (last - first) in
    let n : length s ≡ last - first = length-map-range_with_len (digest_at size bytes) first (last - first) in
    let e : first + (last - first) ≡ last = omega arith in
    paste_all digests first s (last - first) (sym n) ∙ ap (λ k. take first digests ++ (s ++ drop k digests)) e

-- nothing is taken anew where there is no block
pub anew_none : (size : ℕ) (bytes : List ℕ) (digests : List (List ℕ)) (first last : ℕ) → first ≡ last →
    digests ≡ take first digests ++ (digests_from size bytes first (last - first) ++ drop last digests)
anew_none size bytes digests first last same = subst (λ k. digests ≡ take first digests ++ (digests_from size bytes first (k - first) ++ drop k digests)) same
    (let e : first - first ≡ 0 = omega arith in rw e (sym (take-append-drop first digests)))

-- the digest of the first block by parts
pub head_digest : (size : ℕ) (bytes : List ℕ) (at : ℕ) → 1 ≤ size →
    sha256 (take (at % size) (drop (at / size * size) bytes) ++ take (size - at % size) (drop at bytes)) ≡ digest_at size bytes (at / size)
unfolding digest_at
head_digest size bytes at some = ap sha256 (whole_at size bytes at some)
