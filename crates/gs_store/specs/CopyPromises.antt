-- What the laws of a slot say of copies.
use Rattle.std.specs.Prelude.{◌≡◌, ◌≤◌, ℕ, Bool, true, false, List, Option, Some, None, Ok, is_some}
use Rattle.gs_base.specs.declared.numbers.Stamp.{Stamp}
use Rattle.gs_base.specs.Stamps.{is_before}
use Rattle.gs_block.specs.Stored.{digests_of}
use Rattle.gs_replica.specs.Held.{Held}
use Rattle.gs_replica.specs.Seals.{lowest_damaged, stamp_of}
use Rattle.gs_replica.specs.Copies.{Image, SealedImage}
use Rattle.gs_replica.specs.Stands.{Edit, StandsFor, IsTaken, replica_of}
use Rattle.gs_store.specs.Slots.{Slot, sealed_of}
use Rattle.gs_store.specs.Moves.{sound_image, copy_out, copy_in, copy_for, take_copy}
use Rattle.gs_store.specs.Standing.{StandsIn, IsToldIn, StoodIn, SealToldIn, LiveUndamaged, image_in}

-- ---- what a copy carries
-- An image that goes along is what the list of its source gives.
abbrev pub ImagesAreOfTheSource : Type 0
ImagesAreOfTheSource = (block chunk : ℕ) (stamp : Stamp) (flag : Bool) (i : Image) (o : Option SealedImage) (s : Slot) (edits : List Edit) → StandsIn block chunk s edits
    → IsToldIn block chunk s edits → copy_out stamp flag s ≡ Ok (i, o)
    → i ≡ replica_of chunk edits

-- A sealed image that goes along is what the list gives that stood at the seal, with its digests and stamp.
abbrev pub SealedImagesAreOfTheSource : Type 0
SealedImagesAreOfTheSource = (block chunk : ℕ) (t : SealedImage) (s : Slot) (edits : List Edit) → StoodIn block chunk s edits → SealToldIn block chunk s edits
    → sound_image (sealed_of s) ≡ Some t
    → (t.image ≡ replica_of chunk edits) × (t.digests ≡ digests_of block (replica_of chunk edits).bytes) × (stamp_of (sealed_of s) ≡ Some t.stamp)

-- ---- what a slot is made of a copy
-- The live replica stands for what the image stood for, and has no damaged block.
abbrev pub CopiesStandWhereTheyArrive : Type 0
CopiesStandWhereTheyArrive = (block chunk : ℕ) (stamp : Stamp) (i : Image) (o : Option SealedImage) (s s2 : Slot) (edits : List Edit) → 1 ≤ block → block ≤ 65536
    → chunk ≤ 67108864 → IsTaken chunk edits → i ≡ replica_of chunk edits → is_before s.promise stamp ≡ true → copy_in block chunk stamp i o s ≡ Ok s2
    → StandsIn block chunk s2 edits × LiveUndamaged s2.live

-- The promise is the stamp of the copy.
abbrev pub CopiesArePromised : Type 0
CopiesArePromised = (block chunk : ℕ) (stamp : Stamp) (i : Image) (o : Option SealedImage) (s s2 : Slot) → is_before s.promise stamp ≡ true
    → copy_in block chunk stamp i o s ≡ Ok s2
    → (s2.promise ≡ stamp) × (s2.carried ≡ is_some o)

-- The sealed image is the carried one, if there is one.
abbrev pub CarriedImagesArrive : Type 0
CarriedImagesArrive = (block chunk : ℕ) (stamp : Stamp) (i : Image) (t : SealedImage) (s s2 : Slot) → is_before s.promise stamp ≡ true
    → copy_in block chunk stamp i (Some t) s ≡ Ok s2
    → image_in (sealed_of s2) ≡ Some t

-- A carried image of what a list gives stands for that list in the slot, and can be carried on.
abbrev pub CarriedImagesStandWhereTheyArrive : Type 0
CarriedImagesStandWhereTheyArrive = (block chunk : ℕ) (stamp : Stamp) (i : Image) (t : SealedImage) (s s2 : Slot) (edits : List Edit) → 1 ≤ block → block ≤ 65536
    → chunk ≤ 67108864 → IsTaken chunk edits → t.image ≡ replica_of chunk edits → t.digests ≡ digests_of block (replica_of chunk edits).bytes
    → is_before s.promise stamp ≡ true → copy_in block chunk stamp i (Some t) s ≡ Ok s2
    → StoodIn block chunk s2 edits × (sound_image (sealed_of s2) ≡ Some t)

-- A copy under a stamp that is promised already changes nothing.
abbrev pub OldCopiesChangeNothing : Type 0
OldCopiesChangeNothing = (block chunk : ℕ) (stamp : Stamp) (i : Image) (o : Option SealedImage) (s s2 : Slot) → is_before s.promise stamp ≡ false
    → copy_in block chunk stamp i o s ≡ Ok s2
    → s2 ≡ s

-- ---- a copy for another handle
-- A copy that is made for another handle stands for the list of its source, undamaged, under a stamp above the promise there.
abbrev pub CopiesForAnotherHandleStand : Type 0
CopiesForAnotherHandleStand = (block chunk : ℕ) (at stamp : Stamp) (s target : Slot) (h : Held) (edits : List Edit) → StandsIn block chunk s edits
    → copy_for at stamp s target ≡ Ok (Some h)
    → StandsFor block chunk h edits × (lowest_damaged h.chunk ≡ None) × (h.promise ≡ stamp) × (is_before target.promise stamp ≡ true)

-- The slot that takes such a copy stands for that list under its stamp, over the same sealed image.
abbrev pub CopiesForAnotherHandleAreTaken : Type 0
CopiesForAnotherHandleAreTaken = (block chunk : ℕ) (h : Held) (s s2 : Slot) (edits : List Edit) → StandsFor block chunk h edits → is_before s.promise h.promise ≡ true
    → take_copy h s ≡ Ok s2
    → StandsIn block chunk s2 edits × (s2.promise ≡ h.promise) × (sealed_of s2 ≡ sealed_of s)
