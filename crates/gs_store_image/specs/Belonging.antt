-- What belongs together, as tests: a seal to what stands.
use Rattle.std.specs.Prelude.{◌≡◌, ℕ, ◌+◌, ◌-◌, ◌*◌, ◌==◌, ◌&&◌, nat_le, min, Bool, true, false, List, [], ◌∷◌, length, Option, Some, None, refl}
use Rattle.gs_block.specs.Stored.{Stored, count_of}
use Rattle.gs_block.specs.Images.{Images}
use Rattle.gs_replica.specs.declared.seal.Seal.{Seal}
use Rattle.gs_replica.specs.Held.{Held}
use Rattle.gs_replica.specs.Inside.{has_each}

-- whether an image is as long as its block was sealed
abbrev pub is_image : ℕ → Option (List ℕ) → Bool
is_image many None = true
is_image many (Some image) = length image == many

-- whether the images from a block on are
abbrev pub are_images : ℕ → ℕ → ℕ → List (Option (List ℕ)) → Bool
are_images size long k [] = true
are_images size long k (x ∷ xs) = is_image (min size (long - k * size)) x && are_images size long (k + 1) xs

-- whether images are those of a chunk, as AreFirst says
abbrev pub are_first : Images → Stored → Bool
are_first i s =
    nat_le 1 s.block
    && (nat_le i.long (length s.bytes) && ((length i.blocks == count_of s.block i.long) && ((length i.digests == count_of s.block i.long) && are_images s.block i.long 0 i.blocks)))

-- whether a seal belongs to what stands, as Belongs says
abbrev pub belongs : Held → Seal → Bool
belongs h s = are_first s.images h.chunk && (nat_le s.count h.count && has_each s.first h.done)

abbrev pub belongs_in : Held → Option Seal → Bool
belongs_in h None = true
belongs_in h (Some s) = belongs h s

-- ---- examples

a_short_last_image : are_images 4 6 0 (None ∷ Some (5 ∷ 6 ∷ []) ∷ []) ≡ true
a_short_last_image = refl

a_long_last_image : are_images 4 6 0 (None ∷ Some (5 ∷ 6 ∷ 7 ∷ []) ∷ []) ≡ false
a_long_last_image = refl
