-- What the laws of a replica say, of what it stands for and of what its seal gives back.
use Rattle.std.specs.Prelude.{◌≡◌, ◌≢◌, ◌≤◌, ◌<◌, ℕ, length, true, List, [], ◌∷◌, ◌++◌, take, drop, ◌+◌, is_ok, Ok, Some, None}
use Rattle.std.specs.FinMap as fin
use Rattle.gs_base.specs.declared.numbers.Stamp.{Stamp}
use Rattle.gs_base.specs.declared.numbers.ReqId.{ReqId}
use Rattle.gs_replica.specs.declared.op.Op.{Op}
use Rattle.gs_block.specs.Edits as blocks
use Rattle.gs_block.specs.Kept.{BlocksOf}
use Rattle.gs_block.specs.Stored.{block_at, digests_of, is_intact}
use Rattle.gs_replica.specs.Edits.{copied, is_old}
use Rattle.gs_replica.specs.Held.{Held}
use Rattle.gs_replica.specs.Seals.{State, seal, unseal, apply, damage, promise, lowest_damaged, roll_back, sealed_at}
use Rattle.gs_replica.specs.Copies.{Image, SealedImage, image_of, image, sealed_image, of_image, of_sealed, and_then, under}
use Rattle.gs_replica.specs.Whole.{IsWhole}
use Rattle.gs_replica.specs.Calls.{Call, LeadsTo, LeadsSparing}
use Rattle.gs_replica.specs.Stands.{Edit, StandsFor, HoldsBlock, IsToldFrom, IsTaken, SealedAt, SealToldFrom, replica_of}

-- ---- a sealed image
-- A replica that is made of a sealed image rolls back to what its source would have rolled back to.
abbrev pub CarriedSealsRollBack : Type 0
CarriedSealsRollBack = (r : State) (i : SealedImage) (start : Stamp) → IsWhole r → sealed_image r ≡ Ok i
    → and_then (of_sealed r.held.chunk.block r.held.chunk.chunk i) (roll_back start) ≡ roll_back start r

-- ---- what a replica stands for
-- A replica that has taken an edit stands for the list with that edit.
abbrev pub EditsAreListed : Type 0
EditsAreListed = (block chunk : ℕ) (r r2 : State) (edits : List Edit) (stamp : Stamp) (number : ℕ) (req : ReqId) (op : Op) (bytes : List ℕ)
    → StandsFor block chunk r.held edits → IsToldFrom block chunk r.held edits → apply stamp number req op bytes r ≡ Ok r2
    → StandsFor block chunk r2.held (edits ++ (record { req = req; op = op; bytes = bytes }) ∷ [])

-- A promise leaves the list.
abbrev pub PromisesLeaveTheList : Type 0
PromisesLeaveTheList = (block chunk : ℕ) (r r2 : State) (edits : List Edit) (stamp : Stamp) → StandsFor block chunk r.held edits → promise stamp r ≡ Ok r2
    → StandsFor block chunk r2.held edits

-- A block with its digest is what the list gives of it.
abbrev pub IntactBlocksAreOfTheList : Type 0
IntactBlocksAreOfTheList = (block chunk : ℕ) (r : Held) (edits : List Edit) (i : ℕ) → StandsFor block chunk r edits → IsToldFrom block chunk r edits
    → i < length r.chunk.digests → is_intact block r.chunk.bytes r.chunk.digests i ≡ true
    → block_at block i r.chunk.bytes ≡ block_at block i (replica_of chunk edits).bytes

-- A read gives what the list gives there.
abbrev pub ReadsAreOfTheList : Type 0
ReadsAreOfTheList = (block chunk : ℕ) (r : State) (edits : List Edit) (offset many : ℕ) (part : List ℕ) → StandsFor block chunk r.held edits
    → IsToldFrom block chunk r.held edits → blocks.read r.held.chunk offset many ≡ Ok part
    → part ≡ take many (drop offset (replica_of chunk edits).bytes)

-- ---- block by block
-- A block that holds what the list gives of it does so behind an edit too, of the list with that edit.
abbrev pub EditsLeaveBlocksHeld : Type 0
EditsLeaveBlocksHeld = (block chunk k : ℕ) (r r2 : State) (edits : List Edit) (stamp : Stamp) (number : ℕ) (req : ReqId) (op : Op) (bytes : List ℕ)
    → StandsFor block chunk r.held edits → HoldsBlock block chunk r.held edits k → apply stamp number req op bytes r ≡ Ok r2
    → HoldsBlock block chunk r2.held (edits ++ (record { req = req; op = op; bytes = bytes }) ∷ []) k

-- It does so behind a promise.
abbrev pub PromisesLeaveBlocksHeld : Type 0
PromisesLeaveBlocksHeld = (block chunk k : ℕ) (r r2 : State) (edits : List Edit) (stamp : Stamp) → HoldsBlock block chunk r.held edits k → promise stamp r ≡ Ok r2
    → HoldsBlock block chunk r2.held edits k

-- It does so behind damage of another block.
abbrev pub DamageLeavesOtherBlocksHeld : Type 0
DamageLeavesOtherBlocksHeld = (block chunk k index : ℕ) (r r2 : State) (edits : List Edit) → k ≢ index → StandsFor block chunk r.held edits
    → HoldsBlock block chunk r.held edits k → damage index r ≡ Ok r2
    → HoldsBlock block chunk r2.held edits k

-- In a replica that is made of what the list gives, each block holds what the list gives of it.
abbrev pub ImagesHoldTheirBlocks : Type 0
ImagesHoldTheirBlocks = (block chunk k : ℕ) (r : State) (edits : List Edit) (stamp : Stamp) → of_image block chunk stamp (replica_of chunk edits) ≡ Ok r
    → HoldsBlock block chunk r.held edits k

-- Such a block has its digest.
abbrev pub HeldBlocksAreIntact : Type 0
HeldBlocksAreIntact = (block chunk k : ℕ) (r : Held) (edits : List Edit) → StandsFor block chunk r edits → k < length r.chunk.digests → HoldsBlock block chunk r edits k
    → is_intact block r.chunk.bytes r.chunk.digests k ≡ true

-- Where no block is damaged and digests tell the blocks apart, each block is such a block.
abbrev pub UndamagedBlocksAreHeld : Type 0
UndamagedBlocksAreHeld = (block chunk k : ℕ) (r : Held) (edits : List Edit) → StandsFor block chunk r edits → IsToldFrom block chunk r edits → lowest_damaged r.chunk ≡ None
    → HoldsBlock block chunk r edits k

-- ---- the blocks of an edited replica
-- Each block of an edited replica is one of the replica before, or one of the text that the list gives with the edit.
abbrev pub EditedBlocksAreOfTheText : Type 0
EditedBlocksAreOfTheText = (block chunk : ℕ) (r r2 : State) (edits : List Edit) (stamp : Stamp) (number : ℕ) (req : ReqId) (op : Op) (bytes : List ℕ)
    → StandsFor block chunk r.held edits → IsToldFrom block chunk r.held edits → apply stamp number req op bytes r ≡ Ok r2
    → BlocksOf block r2.held.chunk.bytes r.held.chunk.bytes (replica_of chunk (edits ++ (record { req = req; op = op; bytes = bytes }) ∷ [])).bytes

-- Each block of that text is one of the edited replica, or one of the text before.
abbrev pub BlocksOfTheTextAreEdited : Type 0
BlocksOfTheTextAreEdited = (block chunk : ℕ) (r r2 : State) (edits : List Edit) (stamp : Stamp) (number : ℕ) (req : ReqId) (op : Op) (bytes : List ℕ)
    → StandsFor block chunk r.held edits → IsToldFrom block chunk r.held edits → apply stamp number req op bytes r ≡ Ok r2
    → BlocksOf block (replica_of chunk (edits ++ (record { req = req; op = op; bytes = bytes }) ∷ [])).bytes r2.held.chunk.bytes (replica_of chunk edits).bytes

-- ---- what an undamaged replica takes
-- An undamaged replica takes the next edit of each list that is taken, under its promise and as the next number.
abbrev pub UndamagedTakeWhatIsTaken : Type 0
UndamagedTakeWhatIsTaken = (block chunk : ℕ) (r : State) (edits : List Edit) (e : Edit) → StandsFor block chunk r.held edits → lowest_damaged r.held.chunk ≡ None
    → IsTaken chunk (edits ++ e ∷ [])
    → is_ok (apply r.held.promise (length edits + 1) e.req e.op e.bytes r) ≡ true

-- An edit that is taken leaves it undamaged.
abbrev pub EditsLeaveUndamaged : Type 0
EditsLeaveUndamaged = (block chunk : ℕ) (r r2 : State) (edits : List Edit) (stamp : Stamp) (number : ℕ) (req : ReqId) (op : Op) (bytes : List ℕ)
    → StandsFor block chunk r.held edits → lowest_damaged r.held.chunk ≡ None → apply stamp number req op bytes r ≡ Ok r2
    → lowest_damaged r2.held.chunk ≡ None

-- ---- copies and images
-- A copy stands for the same list and has no damaged block.
abbrev pub CopiesStandForTheList : Type 0
CopiesStandForTheList = (block chunk : ℕ) (r : State) (h : Held) (edits : List Edit) (stamp : Stamp) → StandsFor block chunk r.held edits → copied stamp r.held ≡ Ok h
    → StandsFor block chunk h edits × (lowest_damaged h.chunk ≡ None)

-- An image is what the list gives.
abbrev pub ImagesAreWhatTheListGives : Type 0
ImagesAreWhatTheListGives = (block chunk : ℕ) (r : State) (i : Image) (edits : List Edit) → StandsFor block chunk r.held edits → IsToldFrom block chunk r.held edits
    → image r ≡ Ok i
    → i ≡ replica_of chunk edits

-- A replica that is made of what a list gives stands for that list and has no damaged block.
abbrev pub ReplicasOfImagesStand : Type 0
ReplicasOfImagesStand = (block chunk : ℕ) (r : State) (edits : List Edit) (stamp : Stamp) → 1 ≤ block → block ≤ 65536 → chunk ≤ 67108864 → IsTaken chunk edits
    → of_image block chunk stamp (replica_of chunk edits) ≡ Ok r
    → StandsFor block chunk r.held edits × (lowest_damaged r.held.chunk ≡ None)

-- ---- a seal
-- An edit leaves the list that a replica stood for when it was sealed.
abbrev pub EditsLeaveTheSeal : Type 0
EditsLeaveTheSeal = (block chunk : ℕ) (r r2 : State) (edits : List Edit) (stamp : Stamp) (number : ℕ) (req : ReqId) (op : Op) (bytes : List ℕ) → SealedAt block chunk r edits
    → apply stamp number req op bytes r ≡ Ok r2
    → SealedAt block chunk r2 edits

-- Behind a rollback the replica stands for that list again, undamaged, without a seal, and under the stamp that the rollback is given.
abbrev pub RollbacksStandForTheSealed : Type 0
RollbacksStandForTheSealed = (block chunk : ℕ) (r r2 : State) (edits : List Edit) (start : Stamp) → SealedAt block chunk r edits → roll_back start r ≡ Ok r2
    → StandsFor block chunk r2.held edits × (lowest_damaged r2.held.chunk ≡ None) × (r2.sealed ≡ None) × (r2.held.promise ≡ start)

-- Its image is what that list gives.
abbrev pub RollbacksGiveTheSealed : Type 0
RollbacksGiveTheSealed = (block chunk : ℕ) (r r2 : State) (edits : List Edit) (start : Stamp) → SealedAt block chunk r edits → roll_back start r ≡ Ok r2
    → IsToldFrom block chunk r2.held edits
    → image_of r2.held ≡ replica_of chunk edits

-- A sealed image carries what that list gives, with its digests and the promise as sealed.
abbrev pub SealedImagesCarryTheSealed : Type 0
SealedImagesCarryTheSealed = (block chunk : ℕ) (r : State) (i : SealedImage) (edits : List Edit) → SealedAt block chunk r edits → SealToldFrom block chunk r.sealed edits
    → sealed_image r ≡ Ok i
    → (i.image ≡ replica_of chunk edits) × (i.digests ≡ digests_of block (replica_of chunk edits).bytes) × (sealed_at r ≡ Some i.stamp)

-- A replica that is made of a sealed image of what a list gives stands for that list, undamaged, and is sealed there.
abbrev pub ReplicasOfSealedImagesStand : Type 0
ReplicasOfSealedImagesStand = (block chunk : ℕ) (r : State) (i : SealedImage) (edits : List Edit) → 1 ≤ block → block ≤ 65536 → chunk ≤ 67108864 → IsTaken chunk edits
    → i.image ≡ replica_of chunk edits → i.digests ≡ digests_of block (replica_of chunk edits).bytes → of_sealed block chunk i ≡ Ok r
    → StandsFor block chunk r.held edits × (lowest_damaged r.held.chunk ≡ None) × SealedAt block chunk r edits

-- ---- a rollback
-- An edit leaves what a rollback gives.
abbrev pub EditsLeaveRollbacks : Type 0
EditsLeaveRollbacks = (r r2 : State) (start stamp : Stamp) (number : ℕ) (req : ReqId) (op : Op) (bytes : List ℕ) → apply stamp number req op bytes r ≡ Ok r2
    → roll_back start r2 ≡ roll_back start r

-- ---- a list of edits
-- Where a list that is taken ends, none of its requests would be taken again.
abbrev pub RequestsStandOnce : Type 0
RequestsStandOnce = (chunk : ℕ) (before behind : List Edit) (e : Edit) → IsTaken chunk (before ++ e ∷ behind)
    → is_old e.req.number (fin.get (replica_of chunk (before ++ e ∷ behind)).done e.req.client.0) ≡ true

-- ---- a run of calls
-- A replica that was sealed rolls back to an undamaged one that stands for the list as sealed and holds what it gives.
abbrev pub RunsGoBack : Type 0
RunsGoBack = (block chunk : ℕ) (r end r2 : State) (edits : List Edit) (calls : List Call) (start : Stamp) → StandsFor block chunk r.held edits → LeadsTo (seal r) calls end
    → roll_back start end ≡ Ok r2
    → StandsFor block chunk r2.held edits × (lowest_damaged r2.held.chunk ≡ None) × (IsToldFrom block chunk r2.held edits → image_of r2.held ≡ replica_of chunk edits)

-- A sealed image behind such a run is what that list gives.
abbrev pub RunsCarryTheSealed : Type 0
RunsCarryTheSealed = (block chunk : ℕ) (r end : State) (i : SealedImage) (edits : List Edit) (calls : List Call) → StandsFor block chunk r.held edits
    → LeadsTo (seal r) calls end → SealToldFrom block chunk end.sealed edits → sealed_image end ≡ Ok i
    → i.image ≡ replica_of chunk edits

-- An undamaged one isn't refused where damage touched no block but those that an edit had touched.
abbrev pub SparingRunsGoBackExactly : Type 0
SparingRunsGoBackExactly = (r end : State) (calls : List Call) (start : Stamp) → lowest_damaged r.held.chunk ≡ None → LeadsSparing (seal r) calls end
    → roll_back start end ≡ under start (Ok (unseal r))
