-- What the bodies of this crate speak of among themselves: no public contract rests on it.
use Rattle.std.specs.Prelude.{◌≡◌, ℕ, Bool, true, Option, Some, None, is_some, Result, OnOk}
use Rattle.std.specs.List.{list_all}
use Rattle.std.specs.FinMap as fin
use Rattle.std.specs.Ordering.{nat_cmp}
use Rattle.gs_base.specs.declared.refusal.Refusal.{Refusal}
use Rattle.gs_block.specs.Images.{Images, AreFirst, undone, touched, damage_before}
use Rattle.gs_block.specs.Stored.{Stored}
use Rattle.gs_replica.specs.declared.op.Done.{Done}
use Rattle.gs_replica.specs.Held.{Held}
use Rattle.gs_replica.specs.First.{First}
use Rattle.gs_replica.specs.Copies.{SealedImage, image_of}

-- each client that had a request when the replica was sealed has one
abbrev pub HasSealed : First → fin.FinMap nat_cmp Done → Type 0
HasSealed first done = (client : ℕ) (sealed : Done) → fin.get first client ≡ Some (Some sealed) → is_some (fin.get done client) ≡ true

-- the same as a test: whether a client has a request, where it had one then
abbrev pub has_if : Option Done → Bool → Bool
has_if None has = true
has_if (Some sealed) has = has

abbrev pub has_one : fin.FinMap nat_cmp Done → ℕ × Option Done → Bool
has_one done entry = has_if entry.1 (is_some (fin.get done entry.0))

abbrev pub has_each : First → fin.FinMap nat_cmp Done → Bool
has_each first done = list_all (has_one done) (fin.entries first)

-- Damage of a block that isn't refused reaches what undoing gives where an edit hasn't touched the block, and leaves the images
-- those of the chunk.
abbrev pub DamagesTheSealed : {B : Type 0} → Result B Refusal → ℕ → Stored → Stored → Type 0
DamagesTheSealed result block old new =
    (i : Images) → AreFirst i old → OnOk result ((undone i new ≡ damage_before block (touched i) (undone i old)) × AreFirst i new)

-- what stands as a sealed image carries it
abbrev pub carried_of : Held → SealedImage
carried_of h = record { image = image_of h; stamp = h.promise; digests = h.chunk.digests }
