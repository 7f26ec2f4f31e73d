-- A write by parts: zeros behind the end, then the piece over what stands there.
use Rattle.std.proofs.Common.{◌≡◌, ℕ, ◌+◌, ◌-◌, ◌≤◌, arith, sym, ap, List, [], ◌++◌, take, drop, length, replicate, ◌∙◌, min, max, rules}
use Rattle.std.proofs.lemmas.List.{places, same_lists, take-append-le}
use Rattle.gs_block.specs.Chunk.{written}
use Rattle.gs_block.specs.Stored.{count_of}
use Rattle.gs_block.specs.Inverses.{replaced}
use Rattle.gs_block.proofs.Counts.{count_max}

pub written_by_parts : (offset : ℕ) (piece bytes : List ℕ) →
    replaced (bytes ++ replicate (offset + length piece - length bytes) 0) offset piece ≡ written offset piece bytes
unfolding written
written_by_parts offset piece bytes = same_lists _ _ (search (rules, places)) (λ k d h. grind (arith, places))

pub length-written : (offset : ℕ) (piece bytes : List ℕ) → length (written offset piece bytes) ≡ max (length bytes) (offset + length piece)
unfolding written
length-written offset piece bytes = search (rules, places)

pub take-written : (offset : ℕ) (piece bytes : List ℕ) → take (min offset (length bytes)) bytes ≡ take (min offset (length bytes)) (written offset piece bytes)
unfolding written
take-written offset piece bytes = same_lists _ _ (search (rules, places)) (λ k d h. grind (arith, places))

-- an append and a padding as writes
pub appended_is_written : (piece bytes : List ℕ) → written (length bytes) piece bytes ≡ bytes ++ piece
unfolding written
appended_is_written piece bytes = same_lists _ _ (search (rules, places)) (λ k d h. grind (arith, places))

pub padded_is_written : (chunk : ℕ) (bytes : List ℕ) → length bytes ≤ chunk → written chunk [] bytes ≡ bytes ++ replicate (chunk - length bytes) 0
unfolding written
padded_is_written chunk bytes within = same_lists _ _ (search (rules, places)) (λ k d h. grind (arith, places))

-- room behind a list leaves the parts of it
take-room : {A : Type 0} (n : ℕ) (xs ys : List A) → n ≤ length xs → take n (xs ++ ys) ≡ take n xs
take-room n xs ys le = take-append-le n xs ys le

drop-room : {A : Type 0} (n : ℕ) (z : A) (xs : List A) → drop n (xs ++ replicate (n - length xs) z) ≡ drop n xs
drop-room n z xs = same_lists _ _ (search (rules, places)) (λ k d h. grind (arith, places))

pub anew_room : (ds : List (List ℕ)) (room : List (List ℕ)) (z : List ℕ) (mid : List (List ℕ)) (first last : ℕ) → first ≤ length ds → room ≡ ds ++ replicate (last - length ds) z →
    take first room ++ (mid ++ drop last room) ≡ take first ds ++ (mid ++ drop last ds)
anew_room ds room z mid first last within is =
    ap (λ xs. take first xs ++ (mid ++ drop last xs)) is
    ∙ ap (λ xs. xs ++ (mid ++ drop last (ds ++ replicate (last - length ds) z))) (take-room first ds (replicate (last - length ds) z) within)
    ∙ ap (λ xs. take first ds ++ (mid ++ xs)) (drop-room last z ds)

-- one digest for each block of the bytes that are written
pub each_written : (size offset : ℕ) (piece bytes : List ℕ) (ds : List (List ℕ)) (z : List ℕ) → 1 ≤ size → length ds ≡ count_of size (length bytes) →
    length (ds ++ replicate (count_of size (offset + length piece) - length ds) z) ≡ count_of size (length (written offset piece bytes))
each_written size offset piece bytes ds z some each =
    let most = count_max size (length bytes) (offset + length piece) some in
    let long : length (ds ++ replicate (count_of size (offset + length piece) - length ds) z) ≡ length ds + (count_of size (offset + length piece) - length ds) = search (rules, places) in
    let sum : length ds + (count_of size (offset + length piece) - length ds) ≡ max (count_of size (length bytes)) (count_of size (offset + length piece)) = omega arith in
    long ∙ sum ∙ sym most ∙ ap (count_of size) (sym (length-written offset piece bytes))
