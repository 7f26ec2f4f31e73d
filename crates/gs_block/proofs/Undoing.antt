-- What undoing gives stays when an edit of touched blocks is taken back.
use Rattle.std.proofs.Common.{◌≡◌, ◌≢◌, ℕ, ◌+◌, ◌-◌, ◌*◌, ◌/◌, ◌%◌, ◌<◌, ◌≤◌, arith, refl, sym, ap, subst, List, ◌∷◌, take, drop, length, replicate, get_or, map, ◌∙◌, min, ⊎_elim, ◌⊎◌, inl, inr, Bool, true, false, cond, zero, suc, true≢false, length-take}
use Rattle.std.specs.Prelude.{Option, Some, None, Result, Ok, Err, is_some, nat_le, nat_lt, ◌&&◌, ◌||◌, slice_index_or, not}
use Rattle.std.proofs.lemmas.Bool.{cases_lt, cases_eq}
use Rattle.std.proofs.lemmas.List.{ext_get_or, get_or-map, get_or-take, get_or_past, places}
use Rattle.std.proofs.lemmas.Bool.Decides.{nat_tests}
use Rattle.std.proofs.lemmas.List.FromFn.{length-map-range_with_len}
use Rattle.std.specs.List.{range_with_len}
use Rattle.gs_block.proofs.Following.{length-replaced}
use Rattle.gs_base.specs.declared.refusal.Refusal.{Refusal}
use Rattle.gs_base.specs.declared.refusal.Refusal.TheVariants.{BadLine}
use Rattle.gs_block.specs.Stored.{Stored, count_of}
use Rattle.gs_block.specs.Inverses.{Inverse, undo, fits, restored, replaced, inverse_of}
use Rattle.gs_block.specs.Kept.{Outside}
use Rattle.gs_block.proofs.Counts.{count_mono}
use Rattle.gs_block.specs.Images.{AreFirst, Images, IsImage, Missing, all_touched, begun, byte_before, byte_of, bytes_before, covers, missing, or_same, touch, touched, undone}
use Rattle.gs_block.proofs.Back.{FitsAt, fits_at}
use Rattle.gs_block.proofs.Sealed.{block_counted, block_mono, place_of, same_places, touched_stays, with_copies}

pub touched_step : (xs : List Bool) (i end : ℕ) → i < end → all_touched xs i (end - i) ≡ (slice_index_or xs i true && all_touched xs (i + 1) (end - (i + 1)))
touched_step xs i end below =
    let e : end - i ≡ suc (end - (i + 1)) = omega arith in
    ap (all_touched xs i) e

le_of : (m n : ℕ) → nat_le m n ≡ true → m ≤ n
le_of m n h = grind (arith, nat_tests)

not_false : (b : Bool) → not b ≡ false → b ≡ true
not_false true h = refl
not_false false h = absurd (true≢false h)

not_true : (b : Bool) → not b ≡ true → b ≡ false
not_true false h = refl
not_true true h = absurd (true≢false (sym h))

pub touched_more : (xs : List Bool) (i end : ℕ) → i < end → not (slice_index_or xs i true) ≡ false → all_touched xs i (end - i) ≡ all_touched xs (i + 1) (end - (i + 1))
touched_more xs i end below here = touched_step xs i end below ∙ ap (λ b. b && all_touched xs (i + 1) (end - (i + 1))) (not_false (slice_index_or xs i true) here)

pub touched_here : (xs : List Bool) (i end : ℕ) → i < end → not (slice_index_or xs i true) ≡ true → all_touched xs i (end - i) ≡ false
touched_here xs i end below here = touched_step xs i end below ∙ ap (λ b. b && all_touched xs (i + 1) (end - (i + 1))) (not_true (slice_index_or xs i true) here)

pub touched_none : (xs : List Bool) (i end : ℕ) → end ≤ i → all_touched xs i (end - i) ≡ true
touched_none xs i end le = let e : end - i ≡ 0 = omega arith in ap (all_touched xs i) e

none_at : (n i : ℕ) → get_or {A = Option (List ℕ)} (replicate n None) i None ≡ None
none_at zero i = refl
none_at (suc n) zero = refl
none_at (suc n) (suc i) = none_at n i

begun_bytes : (size n : ℕ) (bytes : List ℕ) → bytes_before size (replicate n None) (length bytes) bytes ≡ bytes
unfolding bytes_before byte_before
begun_bytes size n bytes =
    let long = length-map-range_with_len (byte_before size (replicate n None) bytes) 0 (length bytes) in
    ext_get_or 0 (map (byte_before size (replicate n None) bytes) (range_with_len 0 (length bytes))) bytes long
    (λ k below. place_of (byte_before size (replicate n None) bytes) (length bytes) k 0 (omega arith)
    ∙ ap (λ o. byte_of o (k % size) (get_or bytes k 0)) (none_at n (k / size)))

-- undoing gives the chunk itself when it has just been sealed
pub begun_undone : (s : Stored) → undone (begun s) s ≡ s
begun_undone s = λ k. record { block = s.block; chunk = s.chunk; bytes = begun_bytes s.block (length s.digests) s.bytes k; digests = s.digests }

pub begun_touched : (n : ℕ) → map is_some (replicate {A = Option (List ℕ)} n None) ≡ replicate n false
begun_touched zero = refl
begun_touched (suc n) = ap (λ xs. false ∷ xs) (begun_touched n)

first_of : (a b : Bool) → (a && b) ≡ true → a ≡ true
first_of true b h = refl
first_of false b h = h

second_of : (a b : Bool) → (a && b) ≡ true → b ≡ true
second_of true b h = h
second_of false b h = absurd (true≢false (sym h))

touched_at : (xs : List Bool) (first many k : ℕ) → all_touched xs first many ≡ true → first ≤ k → k < first + many → slice_index_or xs k true ≡ true
touched_at xs first zero k h low high = absurd (omega arith)
touched_at xs first (suc many) k h low high = ⊎_elim
    (λ (here : k ≡ first). ap (λ n. slice_index_or xs n true) here ∙ first_of (slice_index_or xs first true) (all_touched xs (first + 1) many) h)
    (λ (later : k ≢ first). touched_at xs (first + 1) many k (second_of (slice_index_or xs first true) (all_touched xs (first + 1) many) h) (omega arith) (omega arith))
    (cases_eq k first)

pub byte_indifferent : (o : Option (List ℕ)) (within a b : ℕ) → is_some o ≡ true → byte_of o within a ≡ byte_of o within b
byte_indifferent (Some image) within a b h = refl
byte_indifferent None within a b h = absurd (true≢false (sym h))

replaced_outside : (xs ys : List ℕ) (at k : ℕ) → at + length ys ≤ length xs → (k < at) ⊎ (at + length ys ≤ k) → get_or (replaced xs at ys) k 0 ≡ get_or xs k 0
replaced_outside xs ys at k fit (inl below) = grind (arith, places)
replaced_outside xs ys at k fit (inr above) = grind (arith, places)

byte_back : (size long old at k : ℕ) (images : List (Option (List ℕ))) (bytes ys : List ℕ) → 1 ≤ size → length images ≡ count_of size long → long ≤ old → at + length ys ≤ length bytes →
    all_touched (map is_some images) (at / size) (count_of size (at + length ys) - at / size) ≡ true → k < long →
    byte_of (get_or images (k / size) None) (k % size) (get_or (take old (replaced bytes at ys)) k 0) ≡ byte_of (get_or images (k / size) None) (k % size) (get_or bytes k 0)
byte_back size long old at k images bytes ys some counted low fit all within =
    let o = get_or images (k / size) None in
    let cut : get_or (take old (replaced bytes at ys)) k 0 ≡ get_or (replaced bytes at ys) k 0 = get_or-take old (replaced bytes at ys) k 0 (omega arith) in
    let out : (k < at) ⊎ (at + length ys ≤ k) → byte_of o (k % size) (get_or (take old (replaced bytes at ys)) k 0) ≡ byte_of o (k % size) (get_or bytes k 0) = λ h.
    ap (byte_of o (k % size)) (cut ∙ replaced_outside bytes ys at k fit h) in
    ⊎_elim
    (λ (below : k < at). out (inl below))
    (λ (from : at ≤ k). ⊎_elim
    (λ (inside : k < at + length ys).
    let first = block_mono size at k some from in
    let last = block_counted size (at + length ys) k some inside in
    let counted_k = block_counted size long k some within in
    let here : slice_index_or (map is_some images) (k / size) true ≡ true = touched_at (map is_some images) (at / size) (count_of size (at + length ys) - at / size) (k / size) all first (omega arith) in
    byte_indifferent o (k % size) (get_or (take old (replaced bytes at ys)) k 0) (get_or bytes k 0)
    (sym (get_or-map is_some images (k / size) None true (omega arith)) ∙ here))
    (λ (above : at + length ys ≤ k). out (inr above))
    (cases_lt k (at + length ys)))
    (cases_lt k at)

pub same_block : (i : Images) (s new : Stored) → new.block ≡ s.block → AreFirst i s → i.long ≤ length new.bytes → AreFirst i new
same_block i s new is first within = record {
  some_block = subst (λ b. 1 ≤ b) (sym is) first.some_block;
  counted = first.counted ∙ ap (λ b. count_of b i.long) (sym is);
  each = first.each ∙ ap (λ b. count_of b i.long) (sym is);
  within = within;
  whole = λ k below. subst (λ b. IsImage (min b (i.long - k * b)) (get_or i.blocks k None)) (sym is) (first.whole k below);
}

undo_gives : (i : Inverse) (s new : Stored) → fits i s ≡ true → undo i s ≡ Ok new → restored i s ≡ new
undo_gives i s new fit h =
    let e : undo i s ≡ Ok (restored i s) = ap (λ b. cond b (Ok (restored i s)) (Err BadLine)) fit in
    ap (λ r. or_same r s) (sym e ∙ h)

-- an inverse that the images cover leaves what undoing gives
pub covered : (i : Images) (inverse : Inverse) (s new : Stored) → covers i.long (touched i) inverse s ≡ true → undo inverse s ≡ Ok new → AreFirst i s →
    (undone i new ≡ undone i s) × AreFirst i new
unfolding covers restored bytes_before byte_before
covered i inverse s new covers_it h first =
    let fit : fits inverse s ≡ true = first_of (fits inverse s) _ covers_it in
    let rest = second_of (fits inverse s) _ covers_it in
    let low : i.long ≤ inverse.old_length = le_of i.long inverse.old_length (first_of (nat_le i.long inverse.old_length) _ rest) in
    let all = second_of (nat_le i.long inverse.old_length) _ rest in
    let f : FitsAt inverse s = fits_at inverse s fit in
    let long = f.long in
    let grown = f.grown in
    let bytes = f.bytes in
    let is : restored inverse s ≡ new = undo_gives inverse s new fit h in
    let same : undone i (restored inverse s) ≡ undone i s = λ k. record {
      block = s.block;
      chunk = s.chunk;
      bytes = same_places (byte_before s.block i.blocks (take inverse.old_length (replaced s.bytes inverse.at inverse.bytes))) (byte_before s.block i.blocks s.bytes) i.long 0
          (λ j below. byte_back s.block i.long inverse.old_length inverse.at j i.blocks s.bytes inverse.bytes first.some_block first.counted low (omega arith) all below) k;
      digests = i.digests;
    } in
    let many = length-replaced s.bytes inverse.at inverse.bytes (let l : inverse.at + length inverse.bytes ≤ length s.bytes = omega arith in l) in
    let cut = length-take inverse.old_length (replaced s.bytes inverse.at inverse.bytes) in (
      ap (undone i) (sym is) ∙ same,
      subst (AreFirst i) is (same_block i s (restored inverse s) refl first (let l : i.long ≤ length (take inverse.old_length (replaced s.bytes inverse.at inverse.bytes)) = omega arith in l)),
    )

lt_so : (m n : ℕ) → m < n → nat_lt m n ≡ true
lt_so m n h = grind (arith, nat_tests)

le_so : (m n : ℕ) → m ≤ n → nat_le m n ≡ true
le_so m n h = grind (arith, nat_tests)

touch_at : (first last k : ℕ) (xs : List Bool) → first ≤ k → k < last → slice_index_or (touch first last xs) k true ≡ true
unfolding touch
touch_at first last k xs low high = ⊎_elim
    (λ (below : k < length xs). place_of (λ j. (nat_le first j && nat_lt j last) || slice_index_or xs j false) (length xs) k true below
    ∙ ap (λ b. (b && nat_lt k last) || slice_index_or xs k false) (le_so first k low)
    ∙ ap (λ b. (true && b) || slice_index_or xs k false) (lt_so k last high))
    (λ (above : length xs ≤ k). get_or_past (touch first last xs) k true (let n = length-map-range_with_len (λ j. (nat_le first j && nat_lt j last) || slice_index_or xs j false) 0 (length xs) in omega arith))
    (cases_lt k (length xs))

all_so : (xs : List Bool) (first many : ℕ) → ((k : ℕ) → first ≤ k → k < first + many → slice_index_or xs k true ≡ true) → all_touched xs first many ≡ true
all_so xs first zero each = refl
all_so xs first (suc many) each =
    ap (λ b. b && all_touched xs (first + 1) many) (each first (omega arith) (omega arith))
    ∙ all_so xs (first + 1) many (λ k low high. each k (omega arith) (omega arith))

must_fit : (b : Bool) (x y : Stored) → (let r : Result Stored Refusal = cond b (Ok x) (Err BadLine) in r) ≡ Ok y → b ≡ true
must_fit true x y h = refl
must_fit false x y h = absurd (cc)

three : (a b c : Bool) → a ≡ true → b ≡ true → c ≡ true → (a && (b && c)) ≡ true
three a b c ha hb hc = rw (ha, hb, hc) refl

-- the images that an edit leaves cover its inverse
pub kept_covers : (i : Images) (m : Missing) (s new : Stored) (start end : ℕ) → AreFirst i s → m ≡ missing i s start end → Outside start end s new → start ≤ length s.bytes → start ≤ end →
    undo (inverse_of s start end) new ≡ Ok s → covers i.long (touched (with_copies i m)) (inverse_of s start end) new ≡ true
unfolding covers inverse_of
kept_covers i m s new start end first is out within order back =
    let xs = touched (with_copies i m) in
    let marked : xs ≡ touch (start / s.block) (count_of s.block end) (touched i) = touched_stays i m s start end first is in
    let part = take (end - start) (drop start s.bytes) in
    let long = length-take (end - start) (drop start s.bytes) in
    let up = count_mono s.block (start + length part) end first.some_block (omega arith) in
    let all : all_touched xs (start / s.block) (count_of s.block (start + length part) - start / s.block) ≡ true =
    all_so xs (start / s.block) (count_of s.block (start + length part) - start / s.block)
    (λ k low high. ap (λ ys. slice_index_or ys k true) marked ∙ touch_at (start / s.block) (count_of s.block end) k (touched i) low (omega arith)) in
    three (fits (inverse_of s start end) new) (nat_le i.long (length s.bytes)) (all_touched xs (start / new.block) (count_of new.block (start + length part) - start / new.block))
    (must_fit (fits (inverse_of s start end) new) (restored (inverse_of s start end) new) s back)
    (le_so i.long (length s.bytes) first.within)
    (subst (λ b. all_touched xs (start / b) (count_of b (start + length part) - start / b) ≡ true) (sym out.block) all)
