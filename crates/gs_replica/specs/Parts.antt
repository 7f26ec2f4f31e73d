-- A replica that is made of its parts.
use Rattle.std.specs.Prelude.{◌≡◌, ℕ, [], ◌∷◌, Option, Result, Ok, Err, refl}
use Rattle.std.specs.FinMap as fin
use Rattle.gs_base.specs.declared.numbers.Stamp.{Stamp}
use Rattle.gs_base.specs.declared.refusal.Refusal.{Refusal}
use Rattle.gs_base.specs.declared.refusal.Refusal.TheVariants as refusals
use Rattle.gs_block.specs.Stored.{count_of}
use Rattle.gs_block.specs.Edits as blocks
use Rattle.gs_replica.specs.declared.seal.Seal.{Seal}
use Rattle.gs_replica.specs.Held.{Held}
use Rattle.gs_replica.specs.Edits.{held_of}
use Rattle.gs_replica.specs.Seals.{State}
use Rattle.gs_replica.specs.Copies.{SealedImage, image_of}
use Rattle.gs_replica.specs.View.{seen_in, BelongsIn}

-- the parts of what stands
abbrev pub stands_as : Held → SealedImage
stands_as h = record { image = image_of h; stamp = h.promise; digests = h.chunk.digests }

-- What stands as these parts say. Range where the bytes pass the size of the chunk, and BadLine where the digests aren't as many
-- as the blocks.
abbrev pub stands_of : ℕ → ℕ → SealedImage → Result Held Refusal
stands_of block chunk i = held_of i.stamp i.image.count i.image.done (blocks.carried block chunk i.image.bytes i.digests)

-- It stands with a seal that belongs to it. BadLine exactly where the seal doesn't.
abbrev pub PartsMake : Option Seal → Result Held Refusal → Result State Refusal → Type 0
PartsMake seal (Ok h) (Ok r) = (r ≡ record { held = h; sealed = seen_in h seal }) × BelongsIn h seal
PartsMake seal (Ok h) (Err e) = (e ≡ refusals.BadLine) × ¬ (BelongsIn h seal)
PartsMake seal (Err e) (Ok r) = ⊥
PartsMake seal (Err e) (Err f) = f ≡ e

-- five bytes in two blocks of 4
five_bytes : (stamp : Stamp) → stands_of 4 16 (record { image = record { bytes = 1 ∷ 2 ∷ 3 ∷ 4 ∷ 5 ∷ []; count = 3; done = fin.empty }; stamp = stamp; digests = [] ∷ [] ∷ [] })
    ≡ Ok (record { chunk = record { block = 4; chunk = 16; bytes = 1 ∷ 2 ∷ 3 ∷ 4 ∷ 5 ∷ []; digests = [] ∷ [] ∷ [] }; count = 3; done = fin.empty; promise = stamp })
unfolding count_of
five_bytes stamp = refl

one_digest_of_two_blocks : (stamp : Stamp) → stands_of 4 16 (record { image = record { bytes = 1 ∷ 2 ∷ 3 ∷ 4 ∷ 5 ∷ []; count = 3; done = fin.empty }; stamp = stamp; digests = [] ∷ [] }) ≡ Err refusals.BadLine
unfolding count_of
one_digest_of_two_blocks stamp = refl
