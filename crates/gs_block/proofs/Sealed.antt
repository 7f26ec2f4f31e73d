-- First images: what an edit keeps of them, and that what undoing gives stays.
use Rattle.std.proofs.Common.{◌≡◌, ◌≢◌, ℕ, ◌+◌, ◌-◌, ◌*◌, ◌/◌, ◌%◌, ◌<◌, ◌≤◌, arith, refl, sym, ap, subst, List, [], ◌∷◌, ◌++◌, take, drop, length, get_or, set, length-set, map, ◌∙◌, min, rules, ⊎_elim, ◌⊎◌, inl, inr, Bool, true, false, cond, zero, suc}
use Rattle.std.specs.Prelude.{Option, Some, None, is_some, nat_lt, nat_le, ◌&&◌, ◌||◌}
use Rattle.std.specs.List.{range_with_len}
use Rattle.std.proofs.lemmas.Bool.{cases_lt, cases_eq}
use Rattle.std.proofs.lemmas.Bool.Decides.{nat_tests}
use Rattle.std.proofs.lemmas.List.{places, ext_get_or, get_or-take, get_or-drop, get_or-map, get_or-set_other, get_or_past, length-map}
use Rattle.std.proofs.lemmas.Grind.{get_or-set_at}
use Rattle.std.proofs.lemmas.Nat.{le-div, div-add-mod'}
use Rattle.std.proofs.Math.Nat.{div-mul-le_self, mod-lt, add-mul}
use Rattle.std.proofs.lemmas.List.FromFn.{length-map-range_with_len, get_or-map-range_with_len}
use Rattle.gs_block.specs.Stored.{Stored, count_of}
use Rattle.gs_block.specs.Images.{AreFirst, Images, IsImage, Missing, block_before, byte_before, byte_of, bytes_before, copies_from, missing, missing_at, missing_of, touch, touched, undone}
use Rattle.gs_block.specs.Inside.{image_or, kept_at, kept_images, or_else}
use Rattle.gs_block.specs.Kept.{Outside}
use Rattle.gs_block.proofs.Counts.{count_mono, one_times}

pub same_default : {A : Type 0} (xs : List A) (i : ℕ) (d e : A) → i < length xs → get_or xs i d ≡ get_or xs i e
same_default [] i d e h = absurd (omega arith)
same_default (x ∷ xs) zero d e h = refl
same_default (x ∷ xs) (suc i) d e h = same_default xs i d e (omega arith)

-- a list by its places
pub place_of : {A : Type 0} (f : ℕ → A) (n k : ℕ) (d : A) → k < n → get_or (map f (range_with_len 0 n)) k d ≡ f k
place_of f n k d below = get_or-map-range_with_len f 0 n k k d below (let e : 0 + k ≡ k = omega arith in e)

pub same_places : {A : Type 0} (f g : ℕ → A) (n : ℕ) (d : A) → ((k : ℕ) → k < n → f k ≡ g k) → map f (range_with_len 0 n) ≡ map g (range_with_len 0 n)
same_places f g n d same =
    let long = length-map-range_with_len f 0 n in
    ext_get_or d (map f (range_with_len 0 n)) (map g (range_with_len 0 n)) (long ∙ sym (length-map-range_with_len g 0 n))
    (λ k below. place_of f n k d (omega arith) ∙ same k (omega arith) ∙ sym (place_of g n k d (omega arith)))

pub one_place : {A : Type 0} (f g : ℕ → A) (n i : ℕ) (d : A) → i < n → ((k : ℕ) → k < n → k ≢ i → f k ≡ g k) → set (map f (range_with_len 0 n)) i (g i) ≡ map g (range_with_len 0 n)
one_place f g n i d below same =
    let long = length-map-range_with_len f 0 n in
    let fit : length (set (map f (range_with_len 0 n)) i (g i)) ≡ n = length-set (map f (range_with_len 0 n)) i (g i) ∙ long in
    ext_get_or d (set (map f (range_with_len 0 n)) i (g i)) (map g (range_with_len 0 n)) (fit ∙ sym (length-map-range_with_len g 0 n))
    (λ k within. ⊎_elim
    (λ (here : k ≡ i). get_or-set_at (map f (range_with_len 0 n)) i k (g i) d here (let l : i < length (map f (range_with_len 0 n)) = omega arith in l) ∙ ap g (sym here) ∙ sym (place_of g n k d (omega arith)))
    (λ (other : k ≢ i). get_or-set_other (map f (range_with_len 0 n)) i k (g i) d other ∙ place_of f n k d (omega arith) ∙ same k (omega arith) other ∙ sym (place_of g n k d (omega arith)))
    (cases_eq k i))

more_get : (ys : List (Option (List ℕ))) (c : Option (List ℕ)) (j : ℕ) → (j ≢ length ys) → get_or ys j None ≡ get_or (ys ++ c ∷ []) j None
more_get ys c j other = grind (arith, places)

last_get : (ys : List (Option (List ℕ))) (c : Option (List ℕ)) (j : ℕ) → (j ≡ length ys) → get_or (ys ++ c ∷ []) j None ≡ c
last_get ys c j here = grind (arith, places)

past_get : (ys : List (Option (List ℕ))) (j : ℕ) → (j ≡ length ys) → get_or ys j None ≡ None
past_get ys j here = grind (arith, places)

le_so : (m n : ℕ) → m ≤ n → nat_le m n ≡ true
le_so m n h = grind (arith, nat_tests)

le_not : (m n : ℕ) → n < m → nat_le m n ≡ false
le_not m n h = grind (arith, nat_tests)

so_le : (m n : ℕ) → nat_le m n ≡ true → m ≤ n
so_le m n h = grind (arith, nat_tests)

kept_other : (old : Option (List ℕ)) (b : Bool) (o : Option (List ℕ)) → o ≡ None → old ≡ cond b (or_else o old) old
kept_other old true o e = ap (λ x. or_else x old) (sym e)
kept_other old false o e = refl

-- no copy is in its place yet
pub kept_none : (images : List (Option (List ℕ))) (first : ℕ) → images ≡ kept_images images first []
unfolding kept_at
kept_none images first =
    ext_get_or None images (kept_images images first []) (sym (length-map-range_with_len (kept_at images first []) 0 (length images)))
    (λ k below. kept_other (get_or images k None) (nat_le first k) (get_or [] (k - first) None) refl ∙ sym (place_of (kept_at images first []) (length images) k None below))

kept_apart : (b : Bool) (o o2 old : Option (List ℕ)) → (b ≡ true → o ≡ o2) → cond b (or_else o old) old ≡ cond b (or_else o2 old) old
kept_apart true o o2 old e = ap (λ x. or_else x old) (e refl)
kept_apart false o o2 old e = refl

-- one more copy in its place
pub kept_more : (images ys : List (Option (List ℕ))) (first : ℕ) (copy : Option (List ℕ)) → first + length ys < length images →
    set (kept_images images first ys) (first + length ys) (or_else copy (get_or (kept_images images first ys) (first + length ys) None)) ≡ kept_images images first (ys ++ copy ∷ [])
unfolding kept_at
kept_more images ys first copy below =
    let i = first + length ys in
    let old : get_or (kept_images images first ys) i None ≡ get_or images i None =
    place_of (kept_at images first ys) (length images) i None below
    ∙ sym (kept_other (get_or images i None) (nat_le first i) (get_or ys (i - first) None) (past_get ys (i - first) (omega arith))) in
    let here : kept_at images first (ys ++ copy ∷ []) i ≡ or_else copy (get_or images i None) =
    ap (λ b. cond b (or_else (get_or (ys ++ copy ∷ []) (i - first) None) (get_or images i None)) (get_or images i None)) (le_so first i (omega arith))
    ∙ ap (λ o. or_else o (get_or images i None)) (last_get ys copy (i - first) (omega arith)) in
    ap (λ o. set (kept_images images first ys) i (or_else copy o)) old
    ∙ ap (set (kept_images images first ys) i) (sym here)
    ∙ one_place (kept_at images first ys) (kept_at images first (ys ++ copy ∷ [])) (length images) i None below
    (λ k within other. kept_apart (nat_le first k) (get_or ys (k - first) None) (get_or (ys ++ copy ∷ []) (k - first) None) (get_or images k None) (λ (e : nat_le first k ≡ true). more_get ys copy (k - first) (let l = so_le first k e in omega arith)))

-- the block of a byte
pub block_counted : (size many k : ℕ) → 1 ≤ size → k < many → k / size < count_of size many
unfolding count_of
block_counted size many k some below =
    let most = div-mul-le_self k size in
    let one : (k / size + 1) * size ≡ k / size * size + size = add-mul (k / size) 1 size ∙ ap (λ n. k / size * size + n) (one_times size) in
    let up : k / size + 1 ≤ (many + size - 1) / size = le-div (k / size + 1) (many + size - 1) size (omega arith) (omega arith) in
    omega arith

pub block_mono : (size j k : ℕ) → 1 ≤ size → j ≤ k → j / size ≤ k / size
block_mono size j k some le = le-div (j / size) k size (omega arith) (let most = div-mul-le_self j size in omega arith)

filled : (o : Option (List ℕ)) (bytes : List ℕ) → or_else (missing_of o bytes) o ≡ Some (image_or o bytes)
filled None bytes = refl
filled (Some image) bytes = refl

-- a block of the span has an image, its own or the copy
kept_in : (size long : ℕ) (images : List (Option (List ℕ))) (old : List ℕ) (first last k : ℕ) → first ≤ k → k < last →
    kept_at images first (copies_from size long images old first (last - first)) k ≡ Some (image_or (get_or images k None) (block_before size long k old))
unfolding kept_at missing_at
kept_in size long images old first last k low high =
    ap (λ b. cond b (or_else (get_or (copies_from size long images old first (last - first)) (k - first) None) (get_or images k None)) (get_or images k None)) (le_so first k low)
    ∙ ap (λ o. or_else o (get_or images k None)) (get_or-map-range_with_len (missing_at size long images old) first (last - first) (k - first) k None (omega arith) (omega arith))
    ∙ filled (get_or images k None) (block_before size long k old)

-- another block stays
kept_out : (size long : ℕ) (images : List (Option (List ℕ))) (old : List ℕ) (first last k : ℕ) → (k < first) ⊎ (last ≤ k) →
    kept_at images first (copies_from size long images old first (last - first)) k ≡ get_or images k None
unfolding kept_at
kept_out size long images old first last k (inl below) =
    ap (λ b. cond b (or_else (get_or (copies_from size long images old first (last - first)) (k - first) None) (get_or images k None)) (get_or images k None)) (le_not first k below)
kept_out size long images old first last k (inr above) =
    let many : length (copies_from size long images old first (last - first)) ≡ last - first = length-map-range_with_len (missing_at size long images old) first (last - first) in
    sym (kept_other (get_or images k None) (nat_le first k) (get_or (copies_from size long images old first (last - first)) (k - first) None)
    (get_or_past (copies_from size long images old first (last - first)) (k - first) None (let l : length (copies_from size long images old first (last - first)) ≤ k - first = omega arith in l)))

image_byte : (size long k : ℕ) (o : Option (List ℕ)) (old : List ℕ) (new : ℕ) → 1 ≤ size → k < long →
    byte_of (Some (image_or o (block_before size long (k / size) old))) (k % size) new ≡ byte_of o (k % size) (get_or old k 0)
unfolding block_before
image_byte size long k (Some image) old new some below = refl
image_byte size long k None old new some below =
    let e : k / size * size + k % size ≡ k = div-add-mod' k size in
    let low : k % size < size = mod-lt k some in
    get_or-take (min size (long - k / size * size)) (drop (k / size * size) old) (k % size) 0 (omega arith)
    ∙ get_or-drop (k / size * size) old (k % size) 0
    ∙ ap (λ n. get_or old n 0) e

-- a byte outside of an edit stays
byte_outside : (old new : List ℕ) (start end k : ℕ) → take start new ≡ take start old → drop end new ≡ drop end old → (k < start) ⊎ (end ≤ k) → get_or new k 0 ≡ get_or old k 0
byte_outside old new start end k before behind (inl below) = sym (get_or-take start new k 0 below) ∙ ap (λ xs. get_or xs k 0) before ∙ get_or-take start old k 0 below
byte_outside old new start end k before behind (inr above) =
    let e : end + (k - end) ≡ k = omega arith in
    ap (λ n. get_or new n 0) (sym e) ∙ sym (get_or-drop end new (k - end) 0) ∙ ap (λ xs. get_or xs (k - end) 0) behind ∙ get_or-drop end old (k - end) 0 ∙ ap (λ n. get_or old n 0) e

outside_of : (size long start end k : ℕ) → 1 ≤ size → k < long → (k / size < start / size) ⊎ (count_of size (min end long) ≤ k / size) → (k < start) ⊎ (end ≤ k)
outside_of size long start end k some within (inl below) = ⊎_elim
    (λ (h : k < start). inl h)
    (λ (h : start ≤ k). absurd (let up = block_mono size start k some h in omega arith))
    (cases_lt k start)
outside_of size long start end k some within (inr above) = ⊎_elim
    (λ (h : k < end). absurd (let up = block_counted size (min end long) k some (omega arith) in omega arith))
    (λ (h : end ≤ k). inr h)
    (cases_lt k end)

-- a byte as sealed stays, whatever the edit writes
byte_kept : (size long : ℕ) (images : List (Option (List ℕ))) (old new : List ℕ) (start end k : ℕ) → 1 ≤ size → k < long →
    take start new ≡ take start old → drop end new ≡ drop end old →
    byte_of (kept_at images (start / size) (copies_from size long images old (start / size) (count_of size (min end long) - start / size)) (k / size)) (k % size) (get_or new k 0)
    ≡ byte_of (get_or images (k / size) None) (k % size) (get_or old k 0)
byte_kept size long images old new start end k some within before behind =
    let first = start / size in
    let last = count_of size (min end long) in
    let out : (k / size < first) ⊎ (last ≤ k / size) → byte_of (kept_at images first (copies_from size long images old first (last - first)) (k / size)) (k % size) (get_or new k 0) ≡ byte_of (get_or images (k / size) None) (k % size) (get_or old k 0) = λ h.
    ap (λ o. byte_of o (k % size) (get_or new k 0)) (kept_out size long images old first last (k / size) h)
    ∙ ap (byte_of (get_or images (k / size) None) (k % size)) (byte_outside old new start end k before behind (outside_of size long start end k some within h)) in
    ⊎_elim
    (λ (below : k / size < first). out (inl below))
    (λ (low : first ≤ k / size). ⊎_elim
    (λ (high : k / size < last).
    ap (λ o. byte_of o (k % size) (get_or new k 0)) (kept_in size long images old first last (k / size) low high)
    ∙ image_byte size long k (get_or images (k / size) None) old (get_or new k 0) some within)
    (λ (above : last ≤ k / size). out (inr above))
    (cases_lt (k / size) last))
    (cases_lt (k / size) first)

pub bytes_kept : (size long : ℕ) (images : List (Option (List ℕ))) (old new : List ℕ) (start end : ℕ) → 1 ≤ size → length images ≡ count_of size long →
    take start new ≡ take start old → drop end new ≡ drop end old →
    bytes_before size (kept_images images (start / size) (copies_from size long images old (start / size) (count_of size (min end long) - start / size))) long new
    ≡ bytes_before size images long old
unfolding bytes_before byte_before
bytes_kept size long images old new start end some counted before behind =
    let copies = copies_from size long images old (start / size) (count_of size (min end long) - start / size) in
    same_places (byte_before size (kept_images images (start / size) copies) new) (byte_before size images old) long 0
    (λ k within.
    ap (λ o. byte_of o (k % size) (get_or new k 0)) (place_of (kept_at images (start / size) copies) (length images) (k / size) None (let l = block_counted size long k some within in omega arith))
    ∙ byte_kept size long images old new start end k some within before behind)

count_min : (size end long k : ℕ) → 1 ≤ size → k < count_of size long → k < count_of size end → k < count_of size (min end long)
count_min size end long k some in_long in_end = ⊎_elim
    (λ (h : end < long). let e : min end long ≡ end = omega arith in subst (λ n. k < count_of size n) (sym e) in_end)
    (λ (h : long ≤ end). let e : min end long ≡ long = omega arith in subst (λ n. k < count_of size n) (sym e) in_long)
    (cases_lt end long)

lt_so : (m n : ℕ) → m < n → nat_lt m n ≡ true
lt_so m n h = grind (arith, nat_tests)

lt_not : (m n : ℕ) → n ≤ m → nat_lt m n ≡ false
lt_not m n h = grind (arith, nat_tests)

is_touched : (size long : ℕ) (images : List (Option (List ℕ))) (old : List ℕ) (start end k : ℕ) → 1 ≤ size → k < count_of size long →
    is_some (kept_at images (start / size) (copies_from size long images old (start / size) (count_of size (min end long) - start / size)) k)
    ≡ ((nat_le (start / size) k && nat_lt k (count_of size end)) || is_some (get_or images k None))
is_touched size long images old start end k some within =
    let first = start / size in
    let last = count_of size (min end long) in
    let o = get_or images k None in
    ⊎_elim
    (λ (below : k < first). ap is_some (kept_out size long images old first last k (inl below))
    ∙ ap (λ b. (b && nat_lt k (count_of size end)) || is_some o) (sym (le_not first k below)))
    (λ (low : first ≤ k). ⊎_elim
    (λ (high : k < last). let up = count_mono size (min end long) end some (omega arith) in
    ap is_some (kept_in size long images old first last k low high)
    ∙ ap (λ b. (b && true) || is_some o) (sym (le_so first k low))
    ∙ ap (λ b. (nat_le first k && b) || is_some o) (sym (lt_so k (count_of size end) (omega arith))))
    (λ (above : last ≤ k). ap is_some (kept_out size long images old first last k (inr above))
    ∙ ap (λ b. (b && false) || is_some o) (sym (le_so first k low))
    ∙ ap (λ b. (nat_le first k && b) || is_some o) (sym (lt_not k (count_of size end) (⊎_elim
    (λ (h : k < count_of size end). absurd (let up = count_min size end long k some within h in omega arith))
    (λ (h : count_of size end ≤ k). h)
    (cases_lt k (count_of size end))))))
    (cases_lt k last))
    (cases_lt k first)

-- the blocks of the span are touched
pub touched_kept : (size long : ℕ) (images : List (Option (List ℕ))) (old : List ℕ) (start end : ℕ) → 1 ≤ size → length images ≡ count_of size long →
    map is_some (kept_images images (start / size) (copies_from size long images old (start / size) (count_of size (min end long) - start / size)))
    ≡ touch (start / size) (count_of size end) (map is_some images)
unfolding touch
touched_kept size long images old start end some counted =
    let copies = copies_from size long images old (start / size) (count_of size (min end long) - start / size) in
    let f = kept_at images (start / size) copies in
    let g : ℕ → Bool = λ k. (nat_le (start / size) k && nat_lt k (count_of size end)) || get_or (map is_some images) k false in
    let n : length (map is_some images) ≡ length images = length-map images is_some in
    let kept_n : length (kept_images images (start / size) copies) ≡ length images = length-map-range_with_len f 0 (length images) in
    let long_n : length (map is_some (kept_images images (start / size) copies)) ≡ length images = length-map (kept_images images (start / size) copies) is_some ∙ kept_n in
    ext_get_or false (map is_some (kept_images images (start / size) copies)) (touch (start / size) (count_of size end) (map is_some images))
    (long_n ∙ sym n ∙ sym (length-map-range_with_len g 0 (length (map is_some images))))
    (λ k below.
    let within : k < length images = omega arith in
    get_or-map is_some (kept_images images (start / size) copies) k None false (omega arith)
    ∙ ap is_some (place_of f (length images) k None within)
    ∙ is_touched size long images old start end k some (omega arith)
    ∙ ap (λ b. (nat_le (start / size) k && nat_lt k (count_of size end)) || b) (sym (get_or-map is_some images k None false within))
    ∙ sym (place_of g (length (map is_some images)) k false (omega arith)))

pub length-block : (size long k : ℕ) (old : List ℕ) → long ≤ length old → length (block_before size long k old) ≡ min size (long - k * size)
unfolding block_before
length-block size long k old within =
    let e : length (take (min size (long - k * size)) (drop (k * size) old)) ≡ min (min size (long - k * size)) (length old - k * size) = search (rules, places) in
    omega arith

image_long : (many : ℕ) (o : Option (List ℕ)) (bytes : List ℕ) → IsImage many o → length bytes ≡ many → IsImage many (Some (image_or o bytes))
image_long many None bytes h e = e
image_long many (Some image) bytes h e = h

whole_kept : (size long : ℕ) (images : List (Option (List ℕ))) (old : List ℕ) (start end k : ℕ) → 1 ≤ size → long ≤ length old → IsImage (min size (long - k * size)) (get_or images k None) →
    IsImage (min size (long - k * size)) (kept_at images (start / size) (copies_from size long images old (start / size) (count_of size (min end long) - start / size)) k)
whole_kept size long images old start end k some within whole =
    let first = start / size in
    let last = count_of size (min end long) in
    let out : (k < first) ⊎ (last ≤ k) → IsImage (min size (long - k * size)) (kept_at images first (copies_from size long images old first (last - first)) k) = λ h.
    subst (IsImage (min size (long - k * size))) (sym (kept_out size long images old first last k h)) whole in
    ⊎_elim
    (λ (below : k < first). out (inl below))
    (λ (low : first ≤ k). ⊎_elim
    (λ (high : k < last). subst (IsImage (min size (long - k * size))) (sym (kept_in size long images old first last k low high))
    (image_long (min size (long - k * size)) (get_or images k None) (block_before size long k old) whole (length-block size long k old within)))
    (λ (above : last ≤ k). out (inr above))
    (cases_lt k last))
    (cases_lt k first)

-- the images with the copies that were missing before an edit
abbrev pub with_copies : Images → Missing → Images
with_copies i m = record { long = i.long; digests = i.digests; blocks = kept_images i.blocks m.first m.copies }

pub undone_stays : (i : Images) (m : Missing) (s new : Stored) (start end : ℕ) → AreFirst i s → m ≡ missing i s start end → Outside start end s new → undone (with_copies i m) new ≡ undone i s
unfolding missing
undone_stays i m s new start end first is out =
    let copies = copies_from s.block i.long i.blocks s.bytes (start / s.block) (count_of s.block (min end i.long) - start / s.block) in
    let same : undone (with_copies i (missing i s start end)) new ≡ undone i s = (λ k. record {
      block = out.block k;
      chunk = out.chunk k;
      bytes = (ap (λ b. bytes_before b (kept_images i.blocks (start / s.block) copies) i.long new.bytes) out.block ∙ bytes_kept s.block i.long i.blocks s.bytes new.bytes start end first.some_block first.counted out.before out.behind) k;
      digests = i.digests;
    }) in
    subst (λ (n : Missing). undone (with_copies i n) new ≡ undone i s) (sym is) same

pub first_stays : (i : Images) (m : Missing) (s new : Stored) (start end : ℕ) → AreFirst i s → m ≡ missing i s start end → Outside start end s new → AreFirst (with_copies i m) new
unfolding missing
first_stays i m s new start end first is out =
    let copies = copies_from s.block i.long i.blocks s.bytes (start / s.block) (count_of s.block (min end i.long) - start / s.block) in
    let f = kept_at i.blocks (start / s.block) copies in
    let kept_n : length (kept_images i.blocks (start / s.block) copies) ≡ length i.blocks = length-map-range_with_len f 0 (length i.blocks) in
    let within = first.within in
    let longer = out.longer in
    let same : AreFirst (with_copies i (missing i s start end)) new = record {
      some_block = subst (λ b. 1 ≤ b) (sym out.block) first.some_block;
      counted = kept_n ∙ first.counted ∙ ap (λ b. count_of b i.long) (sym out.block);
      each = first.each ∙ ap (λ b. count_of b i.long) (sym out.block);
      within = omega arith;
      whole = λ k below.
          let below_n : k < length i.blocks = omega arith in
          subst (λ b. IsImage (min b (i.long - k * b)) (get_or (kept_images i.blocks (start / s.block) copies) k None)) (sym out.block)
          (subst (IsImage (min s.block (i.long - k * s.block))) (sym (place_of f (length i.blocks) k None below_n))
          (whole_kept s.block i.long i.blocks s.bytes start end k first.some_block first.within (first.whole k below_n)));
    } in
    subst (λ (n : Missing). AreFirst (with_copies i n) new) (sym is) same

pub touched_stays : (i : Images) (m : Missing) (s : Stored) (start end : ℕ) → AreFirst i s → m ≡ missing i s start end → touched (with_copies i m) ≡ touch (start / s.block) (count_of s.block end) (touched i)
unfolding missing
touched_stays i m s start end first is =
    subst (λ (n : Missing). touched (with_copies i n) ≡ touch (start / s.block) (count_of s.block end) (touched i)) (sym is)
    (touched_kept s.block i.long i.blocks s.bytes start end first.some_block first.counted)
