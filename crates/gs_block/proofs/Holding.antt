-- The bytes of the images are never more than were sealed.
use Rattle.std.proofs.Common.{◌≡◌, ℕ, ◌+◌, ◌-◌, ◌*◌, ◌<◌, ◌≤◌, arith, refl, sym, ap, List, [], ◌∷◌, ◌++◌, length, length-take, take, get_or, map, ◌∙◌, min, Bool, true, false, cond, suc}
use Rattle.std.specs.Prelude.{Option, Some, None, is_some}
use Rattle.std.proofs.Math.Nat.{add-mul}
use Rattle.std.proofs.lemmas.List.{length-map, map-append, take_more, take_all}
use Rattle.gs_block.specs.Images.{IsImage, image_bytes}
use Rattle.gs_block.specs.Inside.{image_or}
use Rattle.gs_block.proofs.Counts.{one_times}

here_most : (x : Bool) (n : ℕ) → cond x n 0 ≤ n
here_most true n = omega arith
here_most false n = omega arith

pub at_most : (size long k : ℕ) (xs : List Bool) → image_bytes size long k xs ≤ long - k * size
at_most size long k [] = omega arith
at_most size long k (x ∷ xs) =
    let rest = at_most size long (k + 1) xs in
    let one : (k + 1) * size ≡ k * size + size = add-mul k 1 size ∙ ap (λ n. k * size + n) (one_times size) in
    let here : cond x (min size (long - k * size)) 0 ≤ min size (long - k * size) = here_most x (min size (long - k * size)) in
    omega arith

-- the bytes of the images before a block and those of the block
pub bytes_more : (size long k : ℕ) (xs : List Bool) (x : Bool) → image_bytes size long k (xs ++ x ∷ []) ≡ image_bytes size long k xs + cond x (min size (long - (k + length xs) * size)) 0
bytes_more size long k [] x =
    let e : k + 0 ≡ k = omega arith in
    let z : cond x (min size (long - k * size)) 0 + 0 ≡ 0 + cond x (min size (long - k * size)) 0 = omega arith in
    z ∙ ap (λ n. 0 + cond x (min size (long - n * size)) 0) (sym e)
bytes_more size long k (y ∷ xs) x =
    let n : k + 1 + length xs ≡ k + suc (length xs) = omega arith in
    let here = cond y (min size (long - k * size)) 0 in
    let last : ℕ → ℕ = λ m. cond x (min size (long - m * size)) 0 in
    ap (λ r. here + r) (bytes_more size long (k + 1) xs x ∙ ap (λ m. image_bytes size long (k + 1) xs + last m) n)
    ∙ (let a : here + (image_bytes size long (k + 1) xs + last (k + suc (length xs))) ≡ here + image_bytes size long (k + 1) xs + last (k + suc (length xs)) = omega arith in a)

pub image_is : (many : ℕ) (o : Option (List ℕ)) → IsImage many o → length (image_or o []) ≡ cond (is_some o) many 0
image_is many None whole = refl
image_is many (Some image) whole = whole

-- the images below a block, and one more
pub held_more : (size long i : ℕ) (images : List (Option (List ℕ))) → i < length images → IsImage (min size (long - i * size)) (get_or images i None) →
    image_bytes size long 0 (map is_some (take (i + 1) images)) ≡ image_bytes size long 0 (map is_some (take i images)) + length (image_or (get_or images i None) [])
held_more size long i images below whole =
    let o = get_or images i None in
    let before = map is_some (take i images) in
    let many : 0 + length before ≡ i = (let m = length-map (take i images) is_some in let t = length-take i images in omega arith) in
    ap (λ ys. image_bytes size long 0 (map is_some ys)) (take_more images i None below)
    ∙ ap (image_bytes size long 0) (map-append is_some (take i images) (o ∷ []))
    ∙ bytes_more size long 0 before (is_some o)
    ∙ ap (λ n. image_bytes size long 0 before + cond (is_some o) (min size (long - n * size)) 0) many
    ∙ ap (λ n. image_bytes size long 0 before + n) (sym (image_is (min size (long - i * size)) o whole))

pub held_all : (size long : ℕ) (images : List (Option (List ℕ))) (i : ℕ) → length images ≤ i → image_bytes size long 0 (map is_some (take i images)) ≡ image_bytes size long 0 (map is_some images)
held_all size long images i past = ap (λ ys. image_bytes size long 0 (map is_some ys)) (take_all i images past)
