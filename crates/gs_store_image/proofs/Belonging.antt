-- The tests of what belongs together tell what the definitions of replicas say.
use Rattle.std.proofs.Common.{◌≡◌, ℕ, zero, suc, ◌+◌, ◌-◌, ◌*◌, ◌<◌, ◌≤◌, Bool, true, false, min, List, [], ◌∷◌, length, get_or, Option, Some, None, Decides, refl, ap, subst, ◌∙◌, arith}
use Rattle.std.specs.Prelude.{◌&&◌, ◌==◌, nat_le}
use Rattle.std.proofs.lemmas.Bool.{leb-true, le-leb}
use Rattle.std.proofs.lemmas.Bool.Decides.{Decides-eqb}
use Rattle.gs_block.specs.Stored.{Stored, count_of}
use Rattle.gs_block.specs.Images.{Images, IsImage, AreFirst}
use Rattle.gs_replica.specs.declared.seal.Seal.{Seal}
use Rattle.gs_replica.specs.Held.{Held}
use Rattle.gs_replica.specs.Inside.{has_each}
use Rattle.gs_replica.specs.View.{Belongs, BelongsIn}
use Rattle.gs_replica.proofs.Belonging.{decides_sealed}
use Rattle.gs_store_image.specs.Belonging.{is_image, are_images, are_first, belongs, belongs_in}

pub first_so : (a b : Bool) → (a && b) ≡ true → a ≡ true
first_so true b h = refl
first_so false b h = absurd (cc)

pub second_so : (a b : Bool) → (a && b) ≡ true → b ≡ true
second_so true b h = h
second_so false b h = absurd (cc)

pub both_so : (a b : Bool) → a ≡ true → b ≡ true → (a && b) ≡ true
both_so a b ha hb = ap (λ c. c && b) ha ∙ hb

pub decides_both : {A B : Type 0} (a b : Bool) → Decides a A → Decides b B → Decides (a && b) (A × B)
decides_both a b p q = (λ h. (p.0 (first_so a b h), q.0 (second_so a b h)), λ h. both_so a b (p.1 h.0) (q.1 h.1))

pub decides_as : {A B : Type 0} (a : Bool) → (A → B) → (B → A) → Decides a A → Decides a B
decides_as a f g p = (λ h. f (p.0 h), λ h. p.1 (g h))

pub decides_le : (m n : ℕ) → Decides (nat_le m n) (m ≤ n)
decides_le m n = (leb-true m n, le-leb m n)

decides_image : (many : ℕ) (image : Option (List ℕ)) → Decides (is_image many image) (IsImage many image)
decides_image many None = (λ h. tt, λ h. refl)
decides_image many (Some image) = Decides-eqb (length image) many

abbrev Whole : ℕ → ℕ → ℕ → List (Option (List ℕ)) → Type 0
Whole size long k xs = (j : ℕ) → j < length xs → IsImage (min size (long - (k + j) * size)) (get_or xs j None)

images_whole : (size long k : ℕ) (xs : List (Option (List ℕ))) → are_images size long k xs ≡ true → Whole size long k xs
images_whole size long k [] h j below = absurd (omega arith)
images_whole size long k (x ∷ xs) h zero below =
    let here : k ≡ k + 0 = omega arith in
    subst (λ n. IsImage (min size (long - n * size)) x) here ((decides_image (min size (long - k * size)) x).0 (first_so (is_image (min size (long - k * size)) x) (are_images size long (k + 1) xs) h))
images_whole size long k (x ∷ xs) h (suc j) below =
    let there : k + 1 + j ≡ k + suc j = omega arith in
    subst (λ n. IsImage (min size (long - n * size)) (get_or xs j None)) there (images_whole size long (k + 1) xs (second_so (is_image (min size (long - k * size)) x) (are_images size long (k + 1) xs) h) j (omega arith))

whole_images : (size long k : ℕ) (xs : List (Option (List ℕ))) → Whole size long k xs → are_images size long k xs ≡ true
whole_images size long k [] h = refl
whole_images size long k (x ∷ xs) h =
    let here : k + 0 ≡ k = omega arith in
    both_so (is_image (min size (long - k * size)) x) (are_images size long (k + 1) xs)
    ((decides_image (min size (long - k * size)) x).1 (subst (λ n. IsImage (min size (long - n * size)) x) here (h 0 (omega arith))))
    (whole_images size long (k + 1) xs (λ j below.
    let there : k + suc j ≡ k + 1 + j = omega arith in
    subst (λ n. IsImage (min size (long - n * size)) (get_or xs j None)) there (h (suc j) (omega arith))))

from_none : (size long : ℕ) (xs : List (Option (List ℕ))) → Whole size long 0 xs → (k : ℕ) → k < length xs → IsImage (min size (long - k * size)) (get_or xs k None)
from_none size long xs h k below = let e : 0 + k ≡ k = omega arith in subst (λ n. IsImage (min size (long - n * size)) (get_or xs k None)) e (h k below)

to_none : (size long : ℕ) (xs : List (Option (List ℕ))) → ((k : ℕ) → k < length xs → IsImage (min size (long - k * size)) (get_or xs k None)) → Whole size long 0 xs
to_none size long xs h k below = let e : k ≡ 0 + k = omega arith in subst (λ n. IsImage (min size (long - n * size)) (get_or xs k None)) e (h k below)

pub decides_first : (i : Images) (s : Stored) → Decides (are_first i s) (AreFirst i s)
decides_first i s =
    decides_as (are_first i s)
    (λ h. record { some_block = h.0; counted = h.1.1.0; each = h.1.1.1.0; within = h.1.0; whole = from_none s.block i.long i.blocks h.1.1.1.1 })
    (λ h. (h.some_block, (h.within, (h.counted, (h.each, to_none s.block i.long i.blocks h.whole)))))
    (decides_both (nat_le 1 s.block) (nat_le i.long (length s.bytes) && ((length i.blocks == count_of s.block i.long) && ((length i.digests == count_of s.block i.long) && are_images s.block i.long 0 i.blocks))) (decides_le 1 s.block)
    (decides_both (nat_le i.long (length s.bytes)) ((length i.blocks == count_of s.block i.long) && ((length i.digests == count_of s.block i.long) && are_images s.block i.long 0 i.blocks)) (decides_le i.long (length s.bytes))
    (decides_both (length i.blocks == count_of s.block i.long) ((length i.digests == count_of s.block i.long) && are_images s.block i.long 0 i.blocks) (Decides-eqb (length i.blocks) (count_of s.block i.long))
    (decides_both (length i.digests == count_of s.block i.long) (are_images s.block i.long 0 i.blocks) (Decides-eqb (length i.digests) (count_of s.block i.long))
    (images_whole s.block i.long 0 i.blocks, whole_images s.block i.long 0 i.blocks)))))

pub decides_belongs : (h : Held) (s : Seal) → Decides (belongs h s) (Belongs h s)
decides_belongs h s =
    decides_as (belongs h s)
    (λ b. record { first = b.0; later = b.1.0; has = b.1.1 })
    (λ b. (b.first, (b.later, b.has)))
    (decides_both (are_first s.images h.chunk) (nat_le s.count h.count && has_each s.first h.done) (decides_first s.images h.chunk)
    (decides_both (nat_le s.count h.count) (has_each s.first h.done) (decides_le s.count h.count) (decides_sealed s.first h.done (has_each s.first h.done) refl)))

pub decides_belongs_in : (h : Held) (o : Option Seal) → Decides (belongs_in h o) (BelongsIn h o)
decides_belongs_in h None = (λ b. tt, λ b. refl)
decides_belongs_in h (Some s) = decides_belongs h s
