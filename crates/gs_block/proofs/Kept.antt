-- A write leaves the blocks that it doesn't touch, and what it touches can be taken back.
use Rattle.std.proofs.Common.{◌≡◌, ℕ, ◌+◌, ◌-◌, ◌*◌, ◌/◌, ◌<◌, ◌≤◌, arith, refl, sym, ap, subst, List, [], ◌∷◌, ◌++◌, take, drop, length, ◌∙◌, min, max, rules, ⊎_elim}
use Rattle.std.specs.Prelude.{Ok, true, slice_index_or, nat_eq}
use Rattle.std.proofs.lemmas.Bool.Decides.{nat_tests}
use Rattle.sha2.specs.Sha256.{sha256}
use Rattle.std.specs.Str.{bytes_eq}
use Rattle.std.proofs.lemmas.List.{places, same_lists, take-take, drop-take, drop-drop}
use Rattle.std.proofs.lemmas.List.FromFn.{length-map-range_with_len, get_or-map-range_with_len}
use Rattle.std.proofs.lemmas.Bool.{cases_lt}
use Rattle.std.proofs.Math.Nat.{div-mul-le_self, lt-div-mul-add, mul-le-mul_right, add-mul}
use Rattle.gs_block.specs.Chunk.{written}
use Rattle.gs_block.specs.Stored.{Stored, IsStored, count_of, block_at, digest_at, digests_from, is_intact}
use Rattle.gs_block.specs.Edits.{with_bytes}
use Rattle.gs_block.specs.Kept.{KeepsIntact, Outside}
use Rattle.gs_block.specs.Inverses.{Inverse, inverse_of, undo}
use Rattle.gs_block.proofs.Counts.{first_counted, one_times}
use Rattle.gs_block.proofs.Back.{leads_back}
use Rattle.gs_block.proofs.Writing.{take-written, length-written}

pub drop-written : (offset : ℕ) (piece bytes : List ℕ) → drop (offset + length piece) (written offset piece bytes) ≡ drop (offset + length piece) bytes
unfolding written
drop-written offset piece bytes = same_lists _ _ (search (rules, places)) (λ k d h. grind (arith, places))

block_same_before : (size i at : ℕ) (old new : List ℕ) → i * size + size ≤ at → take at new ≡ take at old → block_at size i new ≡ block_at size i old
block_same_before size i at old new within same =
    sym (drop-take (i * size) size new)
    ∙ ap (drop (i * size)) (sym (take-take (i * size + size) at new within) ∙ ap (take (i * size + size)) same ∙ take-take (i * size + size) at old within)
    ∙ drop-take (i * size) size old

block_same_behind : (size i end : ℕ) (old new : List ℕ) → end ≤ i * size → drop end new ≡ drop end old → block_at size i new ≡ block_at size i old
block_same_behind size i end old new within same =
    let e : end + (i * size - end) ≡ i * size = omega arith in
    ap (take size) (ap (λ n. drop n new) (sym e) ∙ sym (drop-drop (i * size - end) end new) ∙ ap (drop (i * size - end)) same ∙ drop-drop (i * size - end) end old ∙ ap (λ n. drop n old) e)

-- a block below that of a place ends before the place
ends_before : (size at i : ℕ) → i < at / size → i * size + size ≤ at
ends_before size at i below =
    let up : (i + 1) * size ≤ at / size * size = mul-le-mul_right size (let n : i + 1 ≤ at / size = omega arith in n) in
    let most = div-mul-le_self at size in
    let one : (i + 1) * size ≡ i * size + size = add-mul i 1 size ∙ ap (λ k. i * size + k) (one_times size) in
    omega arith

-- a block that isn't counted begins behind the end
pub begins_behind : (size end i : ℕ) → 1 ≤ size → count_of size end ≤ i → end ≤ i * size
unfolding count_of
begins_behind size end i some above =
    let up : (end + size - 1) / size * size ≤ i * size = mul-le-mul_right size above in
    let most = lt-div-mul-add {a = end + size - 1} {b = size} some in
    omega arith

middle : {A : Type 0} (xs mid : List A) (first last : ℕ) → first ≤ length xs → first ≤ last → length mid ≡ last - first → (take first (take first xs ++ (mid ++ drop last xs)) ≡ take first xs) × (drop last (take first xs ++ (mid ++ drop last xs)) ≡ drop last xs)
middle xs mid first last within order long = (same_lists _ _ (search (rules, places)) (λ k d h. grind (arith, places)), same_lists _ _ (search (rules, places)) (λ k d h. grind (arith, places)))

-- a write between two places is taken back by its inverse
pub write_back : (s new : Stored) (i : Inverse) (offset : ℕ) (piece : List ℕ) → IsStored s →
    i ≡ inverse_of s (min offset (length s.bytes)) (offset + length piece) →
    new ≡ with_bytes s (min offset (length s.bytes)) (offset + length piece) (written offset piece s.bytes) → undo i new ≡ Ok s
unfolding with_bytes
write_back s new i offset piece stored is new_is =
    let at = min offset (length s.bytes) in
    let end = offset + length piece in
    let low = first_counted s.block at (length s.bytes) stored.some_block (omega arith) in
    let order : at ≤ end = omega arith in
    let first_last = first_counted s.block at end stored.some_block order in
    let each = stored.each in
    let mid = digests_from s.block (written offset piece s.bytes) (at / s.block) (count_of s.block end - at / s.block) in
    let m = middle s.digests mid (at / s.block) (count_of s.block end) (let l : at / s.block ≤ length s.digests = omega arith in l) first_last
    (length-map-range_with_len (digest_at s.block (written offset piece s.bytes)) (at / s.block) (count_of s.block end - at / s.block)) in
    ap (λ j. undo j new) is
    ∙ ap (undo (inverse_of s at end)) new_is
    ∙ leads_back s (with_bytes s at end (written offset piece s.bytes)) at end stored (omega arith) order refl refl (length-written offset piece s.bytes)
    (sym (take-written offset piece s.bytes)) (drop-written offset piece s.bytes) m.0 m.1

eqb_self : (x : ℕ) → nat_eq x x ≡ true
eqb_self x = grind (arith, nat_tests)

pub bytes_eq_self : (xs : List ℕ) → bytes_eq xs xs ≡ true
bytes_eq_self [] = refl
bytes_eq_self (x ∷ xs) = rw (eqb_self x, bytes_eq_self xs) refl

below_first : (ds mid : List (List ℕ)) (first last i : ℕ) → i < first → first ≤ length ds → slice_index_or (take first ds ++ (mid ++ drop last ds)) i [] ≡ slice_index_or ds i []
below_first ds mid first last i below within = grind (arith, places)

in_middle : (ds mid : List (List ℕ)) (first last i : ℕ) → first ≤ i → i < last → first ≤ length ds → length mid ≡ last - first →
    slice_index_or (take first ds ++ (mid ++ drop last ds)) i [] ≡ slice_index_or mid (i - first) []
in_middle ds mid first last i low high within long = grind (arith, places)

above_last : (ds mid : List (List ℕ)) (first last i : ℕ) → last ≤ i → first ≤ last → first ≤ length ds → length mid ≡ last - first →
    slice_index_or (take first ds ++ (mid ++ drop last ds)) i [] ≡ slice_index_or ds i []
above_last ds mid first last i above order within long = grind (arith, places)

pub length_of_parts : (ds mid : List (List ℕ)) (first last : ℕ) → first ≤ last → first ≤ length ds → length mid ≡ last - first →
    length (take first ds ++ (mid ++ drop last ds)) ≡ max last (length ds)
length_of_parts ds mid first last order within long =
    let e : length (take first ds ++ (mid ++ drop last ds)) ≡ min first (length ds) + (length mid + (length ds - last)) = search (rules, places) in
    omega arith

keeps_at : (size : ℕ) (bytes new : List ℕ) (ds : List (List ℕ)) (at end i : ℕ) → 1 ≤ size → at ≤ end → at / size ≤ length ds →
    take at new ≡ take at bytes → drop end new ≡ drop end bytes →
    i < length (take (at / size) ds ++ (digests_from size new (at / size) (count_of size end - at / size) ++ drop (count_of size end) ds)) →
    (i < length ds → is_intact size bytes ds i ≡ true) →
    is_intact size new (take (at / size) ds ++ (digests_from size new (at / size) (count_of size end - at / size) ++ drop (count_of size end) ds)) i ≡ true
unfolding is_intact digest_at
keeps_at size bytes new ds at end i some order within before behind counted intact =
    let first = at / size in
    let last = count_of size end in
    let mid = digests_from size new first (last - first) in
    let long : length mid ≡ last - first = length-map-range_with_len (digest_at size new) first (last - first) in
    let first_last = first_counted size at end some order in
    let all = length_of_parts ds mid first last first_last within long in
    ⊎_elim
    (λ (below : i < first).
    ap (λ d. bytes_eq (sha256 (block_at size i new)) d) (below_first ds mid first last i below within)
    ∙ ap (λ b. bytes_eq (sha256 b) (slice_index_or ds i [])) (block_same_before size i at bytes new (ends_before size at i below) before)
    ∙ intact (omega arith))
    (λ (above : first ≤ i). ⊎_elim
    (λ (inside : i < last).
    ap (λ d. bytes_eq (sha256 (block_at size i new)) d) (in_middle ds mid first last i above inside within long
    ∙ get_or-map-range_with_len (digest_at size new) first (last - first) (i - first) i [] (omega arith) (omega arith))
    ∙ bytes_eq_self (sha256 (block_at size i new)))
    (λ (over : last ≤ i).
    ap (λ d. bytes_eq (sha256 (block_at size i new)) d) (above_last ds mid first last i over first_last within long)
    ∙ ap (λ b. bytes_eq (sha256 b) (slice_index_or ds i [])) (block_same_behind size i end bytes new (begins_behind size end i some over) behind)
    ∙ intact (omega arith))
    (cases_lt i last))
    (cases_lt i first)

-- each block has its digest after a write, where it had it or was not there
pub write_keeps : (B : Type 0) (b : B) (s new : Stored) (offset : ℕ) (piece : List ℕ) → IsStored s →
    new ≡ with_bytes s (min offset (length s.bytes)) (offset + length piece) (written offset piece s.bytes) → KeepsIntact {B = B} (Ok b) s new
unfolding with_bytes
write_keeps B b s new offset piece stored new_is =
    let at = min offset (length s.bytes) in
    let low = first_counted s.block at (length s.bytes) stored.some_block (omega arith) in
    let each = stored.each in
    subst (λ n. KeepsIntact {B = B} (Ok b) s n) (sym new_is)
    (λ i. keeps_at s.block s.bytes (written offset piece s.bytes) s.digests at (offset + length piece) i stored.some_block (omega arith) (let l : at / s.block ≤ length s.digests = omega arith in l)
    (sym (take-written offset piece s.bytes)) (drop-written offset piece s.bytes))

-- a write leaves the bytes outside of its span
pub write_outside : (s new : Stored) (offset : ℕ) (piece : List ℕ) →
    new ≡ with_bytes s (min offset (length s.bytes)) (offset + length piece) (written offset piece s.bytes) → Outside (min offset (length s.bytes)) (offset + length piece) s new
unfolding with_bytes
write_outside s new offset piece new_is =
    let long = length-written offset piece s.bytes in
    subst (Outside (min offset (length s.bytes)) (offset + length piece) s) (sym new_is)
    (record {
      block = refl;
      chunk = refl;
      before = sym (take-written offset piece s.bytes);
      behind = drop-written offset piece s.bytes;
      longer = omega arith;
    })
