-- A seal is what is seen of it, and it is read as it is written.
use Rattle.std.proofs.Common.{◌≡◌, ℕ, ◌+◌, ◌-◌, ◌*◌, ◌<◌, ◌≤◌, min, List, [], ◌∷◌, ◌++◌, append_assoc, length, get_or, map, drop, Option, Some, None, Result, Ok, Err, refl, sym, ap, subst, ◌∙◌, arith}
use Rattle.std.specs.Prelude.{is_some}
use Rattle.std.proofs.lemmas.List.{get_or-drop, length-drop}
use Rattle.std.proofs.lemmas.List.FromFn.{length-map-range_with_len}
use Rattle.gs_block.specs.Stored.{block_at}
use Rattle.gs_block.specs.Images.{Images, IsImage, AreFirst, bytes_before, byte_before, block_before}
use Rattle.gs_block.specs.Inside.{image_or}
use Rattle.gs_block.proofs.Restoring.{block_undone}
use Rattle.gs_fields.specs.Encoding.{option}
use Rattle.gs_fields.specs.Laws.{Reads, reads_both, reads_made, reads_option, reads_long_bytes, reads_long_list, reads_bytes, reads_stamp, n64, some_is}
use Rattle.gs_fields.specs.Reading.{option_at}
use Rattle.gs_fields.specs.Writable.{IsOption}
use Rattle.gs_fields.specs.Work.{Puts}
use Rattle.gs_fields.specs.declared.fault.Fault.{Fault}
use Rattle.gs_fields.specs.declared.fault.Fault.TheVariants as faults
use Rattle.gs_fields.proofs.Loops.{cut_at}
use Rattle.gs_replica.specs.declared.seal.Seal.{Seal}
use Rattle.gs_replica.specs.Held.{Held}
use Rattle.gs_replica.specs.View.{seen, seen_in, BelongsIn}
use Rattle.gs_store_image.specs.Encoding.{first_images, seal_of, seals_of, images, seal}
use Rattle.gs_store_image.specs.Writable.{AreImages, IsSeal}
use Rattle.gs_store_image.specs.Reading.{images_of, images_at, SealFields, seal_of_fields, seal_at}
use Rattle.gs_store_image.proofs.Tables.{reads_first}

-- ---- the first images are the blocks as sealed that were touched

image_is : (o : Option (List ℕ)) (image block : List ℕ) → o ≡ Some image → image_or o block ≡ image
image_is None image block e = absurd (cc)
image_is (Some other) image block e = cc

first_at_place : {A : Type 0} (xs : List A) (k : ℕ) (x : A) (rest : List A) (d : A) → drop k xs ≡ x ∷ rest → get_or xs k d ≡ x
first_at_place xs k x rest d e =
    let here : k + 0 ≡ k = omega arith in
    ap (λ n. get_or xs n d) (sym here) ∙ sym (get_or-drop k xs 0 d) ∙ ap (λ z. get_or z 0 d) e

abbrev Blocks : Type 0
Blocks = List (Option (List ℕ))

same_rest : (x y : Option (List ℕ)) (xs ys : Blocks) → x ∷ xs ≡ y ∷ ys → xs ≡ ys
same_rest x y xs ys e = cc

some_left : (xs : Blocks) (k : ℕ) (x : Option (List ℕ)) (rest : Blocks) → drop k xs ≡ x ∷ rest → k < length xs
some_left xs k x rest e =
    let many : length (drop k xs) ≡ length (x ∷ rest) = ap (λ (z : Blocks). length z) e in
    let cut : length (drop k xs) ≡ length xs - k = length-drop k xs in
    omega arith

rest_behind : (xs : Blocks) (k : ℕ) (x : Option (List ℕ)) (rest : Blocks) → drop k xs ≡ x ∷ rest → drop (k + 1) xs ≡ rest
rest_behind xs k x rest e =
    let here : x ≡ get_or xs k x = sym (first_at_place xs k x rest x e) in
    same_rest x x (drop (k + 1) xs) rest (sym (cut_at xs k x (some_left xs k x rest e) here) ∙ e)

images_again : (size long : ℕ) (bytes : List ℕ) (all : List (Option (List ℕ))) → 1 ≤ size → long ≤ length bytes → ((k : ℕ) → k < length all → IsImage (min size (long - k * size)) (get_or all k None))
    → (k : ℕ) (xs : List (Option (List ℕ))) → drop k all ≡ xs → first_images size (bytes_before size all long bytes) k (map is_some xs) ≡ xs
images_again size long bytes all some within whole k [] e = refl
images_again size long bytes all some within whole k (None ∷ xs) e =
    ap (λ (z : List (Option (List ℕ))). None ∷ z) (images_again size long bytes all some within whole (k + 1) xs (rest_behind all k None xs e))
images_again size long bytes all some within whole k (Some image ∷ xs) e =
    let below : k < length all = some_left all k (Some image) xs e in
    let here : get_or all k None ≡ Some image = first_at_place all k (Some image) xs None e in
    let block : block_at size k (bytes_before size all long bytes) ≡ image =
    block_undone size long k all bytes some within (whole k below) ∙ image_is (get_or all k None) image (block_before size long k bytes) here in
    ap (λ b. Some b ∷ first_images size (bytes_before size all long bytes) (k + 1) (map is_some xs)) block
    ∙ ap (λ (z : List (Option (List ℕ))). Some image ∷ z) (images_again size long bytes all some within whole (k + 1) xs (rest_behind all k (Some image) xs e))

long_again : (size long : ℕ) (bytes : List ℕ) (all : List (Option (List ℕ))) → length (bytes_before size all long bytes) ≡ long
unfolding bytes_before
long_again size long bytes all = length-map-range_with_len (byte_before size all bytes) 0 long

pub seal_again : (h : Held) (s : Seal) → AreFirst s.images h.chunk → seal_of (seen h s) ≡ s
seal_again h s first =
    let long = long_again h.chunk.block s.images.long h.chunk.bytes s.images.blocks in
    let blocks = images_again h.chunk.block s.images.long h.chunk.bytes s.images.blocks first.some_block first.within first.whole 0 s.images.blocks refl in
    λ i. record { stamp = s.stamp; count = s.count; images = record { long = long i; digests = s.images.digests; blocks = blocks i }; first = s.first }

pub seals_again : (h : Held) (o : Option Seal) → BelongsIn h o → seals_of (seen_in h o) ≡ o
seals_again h None b = refl
seals_again h (Some s) b = ap (λ (z : Seal). Some z) (seal_again h s b.first)

-- ---- reading

abbrev image_fields : Images → ℕ × (List (List ℕ) × List (Option (List ℕ)))
image_fields i = (i.long, (i.digests, i.blocks))

pub reads_images : Reads AreImages images images_at
unfolding images_at
reads_images = reads_made {fields = image_fields} (reads_both n64 (reads_both (reads_long_list (reads_bytes 32)) (reads_long_list (reads_option reads_long_bytes)))) (record { back = λ y is. (is, refl); forth = forth }) where
  forth : (x : ℕ × (List (List ℕ) × List (Option (List ℕ)))) (y : Images) → AreImages (record { long = x.0; digests = x.1.0; blocks = x.1.1 }) → images_of x ≡ Some y → (image_fields y ≡ x) × AreImages y
  forth x y is e = subst (λ (z : Images). (image_fields z ≡ x) × AreImages z) (some_is (record { long = x.0; digests = x.1.0; blocks = x.1.1 }) y e) (refl, is)

abbrev seal_fields : Seal → SealFields
seal_fields s = (s.stamp, (s.count, (s.images, s.first)))

pub reads_seal : Reads IsSeal seal seal_at
unfolding seal_at
reads_seal = reads_made {fields = seal_fields} (reads_both reads_stamp (reads_both n64 (reads_both reads_images reads_first))) (record { back = λ y is. (is, refl); forth = forth }) where
  forth : (x : SealFields) (y : Seal) → IsSeal (record { stamp = x.0; count = x.1.0; images = x.1.1.0; first = x.1.1.1 }) → seal_of_fields x ≡ Some y → (seal_fields y ≡ x) × IsSeal y
  forth x y is e = subst (λ (z : Seal). (seal_fields z ≡ x) × IsSeal z) (some_is (record { stamp = x.0; count = x.1.0; images = x.1.1.0; first = x.1.1.1 }) y e) (refl, is)

pub reads_seals : Reads (IsOption IsSeal) (option seal) (option_at seal_at)
reads_seals = reads_option reads_seal

-- ---- writing

-- something was written behind a tag
pub puts_behind : (Is : Type 0) (tag : ℕ) (bytes old mid new : List ℕ) (r : Result (Unit {0}) Fault) → mid ≡ old ++ tag ∷ [] → Puts Is bytes mid new r → Puts Is (tag ∷ bytes) old new r
puts_behind Is tag bytes old mid new (Ok x) first h = (h.0, h.1 ∙ ap (λ (z : List ℕ). z ++ bytes) first ∙ append_assoc old (tag ∷ []) bytes)
puts_behind Is tag bytes old mid new (Err faults.Memory) first h = tt
puts_behind Is tag bytes old mid new (Err faults.Form) first h = h
