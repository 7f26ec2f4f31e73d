-- What the bodies of this crate speak of among themselves: no public contract rests on it.
use Rattle.std.specs.Prelude.{◌≡◌, ℕ, ◌+◌, ◌-◌, ◌*◌, ◌/◌, ◌<◌, cond, nat_le, min, List, [], ◌∷◌, ◌++◌, length, take, drop, map, slice_index_or, Option, Some, None, refl}
use Rattle.std.specs.List.{range_with_len}
use Rattle.gs_block.specs.Chunk.{written}
use Rattle.gs_block.specs.Images.{IsImage}
use Rattle.gs_block.specs.Inverses.{replaced}
use Rattle.gs_block.specs.Stored.{count_of, digests_from}

-- an image, or the bytes where there is none
abbrev pub image_or : Option (List ℕ) → List ℕ → List ℕ
image_or None bytes = bytes
image_or (Some image) bytes = image

-- an image put into its place, where there is one
abbrev pub put_image : List ℕ → ℕ → Option (List ℕ) → List ℕ
put_image bytes at None = bytes
put_image bytes at (Some image) = replaced bytes at image

-- the images with copies in their places from the first on, where there is one
abbrev pub or_else : Option (List ℕ) → Option (List ℕ) → Option (List ℕ)
or_else None old = old
or_else (Some copy) old = Some copy

unfoldable pub kept_at : List (Option (List ℕ)) → ℕ → List (Option (List ℕ)) → ℕ → Option (List ℕ)
kept_at images first copies k = cond (nat_le first k) (or_else (slice_index_or copies (k - first) None) (slice_index_or images k None)) (slice_index_or images k None)

abbrev pub kept_images : List (Option (List ℕ)) → ℕ → List (Option (List ℕ)) → List (Option (List ℕ))
kept_images images first copies = map (kept_at images first copies) (range_with_len 0 (length images))

-- each image is as long as its block was sealed
abbrev pub AreWhole : List (Option (List ℕ)) → ℕ → ℕ → Type 0
AreWhole images size long = (k : ℕ) → k < length images → IsImage (min size (long - k * size)) (slice_index_or images k None)

-- the digests when a piece is written at an offset: those of the blocks that have a byte between the end of the bytes, or
-- the offset where that is before, and the end of the piece are taken anew
abbrev pub digests_anew : ℕ → ℕ → List ℕ → List ℕ → List (List ℕ) → List (List ℕ)
digests_anew size offset piece bytes digests =
    take (min offset (length bytes) / size) digests
    ++ (digests_from size (written offset piece bytes) (min offset (length bytes) / size) (count_of size (offset + length piece) - min offset (length bytes) / size)
    ++ drop (count_of size (offset + length piece)) digests)

a_later_copy_stands : kept_images (Some (1 ∷ []) ∷ None ∷ []) 1 (Some (2 ∷ []) ∷ []) ≡ Some (1 ∷ []) ∷ Some (2 ∷ []) ∷ []
unfolding kept_at
a_later_copy_stands = refl
