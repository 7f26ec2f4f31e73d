-- What the laws of a slot say of its live replica and of edits.
use Rattle.std.specs.Prelude.{◌≡◌, ◌≢◌, ◌≤◌, ◌<◌, ℕ, List, [], ◌∷◌, ◌++◌, length, take, drop, true, is_ok, Ok, Err, Some, None}
use Rattle.gs_base.specs.declared.numbers.Stamp.{Stamp}
use Rattle.gs_base.specs.declared.numbers.ReqId.{ReqId}
use Rattle.gs_base.specs.Stamps.{is_before}
use Rattle.gs_base.specs.declared.refusal.Refusal.{Refusal}
use Rattle.gs_block.specs.Stored.{Stored, block_at, digest_at, is_intact}
use Rattle.gs_replica.specs.declared.op.Op.{Op}
use Rattle.gs_replica.specs.Edits.{judged}
use Rattle.gs_replica.specs.Stands.{Edit, replica_of}
use Rattle.gs_store.specs.Slots.{Live, Slot, create, damage}
use Rattle.gs_store.specs.Whole.{LiveUnder}
use Rattle.gs_store.specs.Serving.{apply, edited_in, read, text_length, digest}
use Rattle.gs_store.specs.Standing.{StandsIn, HoldsIn, IsToldIn, IsNextEdit, LiveUndamaged}

-- ---- the list of edits
-- What is created stands for no edits.
abbrev pub CreatedSlotsStandForNone : Type 0
CreatedSlotsStandForNone = (block chunk : ℕ) (stamp : Stamp) (s s2 : Slot) → 1 ≤ block → block ≤ 65536 → chunk ≤ 67108864 → is_before s.promise stamp ≡ true
    → create block chunk stamp s ≡ Ok s2
    → StandsIn block chunk s2 []

-- A slot that has taken an edit stands for the list with that edit.
abbrev pub EditsAreListed : Type 0
EditsAreListed = (block chunk : ℕ) (stamp : Stamp) (number : ℕ) (req : ReqId) (op : Op) (bytes : List ℕ) (s s2 : Slot) (edits : List Edit) → StandsIn block chunk s edits
    → IsToldIn block chunk s edits → apply stamp number req op bytes s ≡ Ok s2
    → StandsIn block chunk s2 (edits ++ (record { req = req; op = op; bytes = bytes }) ∷ [])

-- ---- what a slot gives
-- A read gives what the list gives there.
abbrev pub ReadsAreOfTheList : Type 0
ReadsAreOfTheList = (block chunk : ℕ) (stamp : Stamp) (offset many : ℕ) (part : List ℕ) (s : Slot) (edits : List Edit) → StandsIn block chunk s edits
    → IsToldIn block chunk s edits → read stamp offset many s ≡ Ok part
    → part ≡ take many (drop offset (replica_of chunk edits).bytes)

-- A block with its digest is what the list gives of it.
abbrev pub IntactBlocksAreOfTheList : Type 0
IntactBlocksAreOfTheList = (block chunk index : ℕ) (l : Live) (s : Slot) (edits : List Edit) → s.live ≡ Some l → StandsIn block chunk s edits → IsToldIn block chunk s edits
    → index < length l.replica.held.chunk.digests → is_intact block l.replica.held.chunk.bytes l.replica.held.chunk.digests index ≡ true
    → block_at block index l.replica.held.chunk.bytes ≡ block_at block index (replica_of chunk edits).bytes

-- The length is that of what the list gives.
abbrev pub LengthsAreOfTheList : Type 0
LengthsAreOfTheList = (block chunk : ℕ) (stamp : Stamp) (many : ℕ) (s : Slot) (edits : List Edit) → StandsIn block chunk s edits → text_length stamp s ≡ Ok many
    → many ≡ length (replica_of chunk edits).bytes

-- A digest is that of what the list gives of its block.
abbrev pub DigestsAreOfTheList : Type 0
DigestsAreOfTheList = (block chunk : ℕ) (stamp : Stamp) (index : ℕ) (found : List ℕ) (s : Slot) (edits : List Edit) → StandsIn block chunk s edits
    → digest stamp index s ≡ Ok found
    → found ≡ digest_at block (replica_of chunk edits).bytes index

-- ---- block by block
-- A block that holds what the list gives of it does so behind an edit too, of the list with that edit.
abbrev pub EditsLeaveBlocksHeld : Type 0
EditsLeaveBlocksHeld = (block chunk k : ℕ) (stamp : Stamp) (number : ℕ) (req : ReqId) (op : Op) (bytes : List ℕ) (s s2 : Slot) (edits : List Edit)
    → StandsIn block chunk s edits → HoldsIn block chunk s edits k → apply stamp number req op bytes s ≡ Ok s2
    → HoldsIn block chunk s2 (edits ++ (record { req = req; op = op; bytes = bytes }) ∷ []) k

-- It does so behind damage of another block.
abbrev pub DamageLeavesOtherBlocksHeld : Type 0
DamageLeavesOtherBlocksHeld = (block chunk k index : ℕ) (s s2 : Slot) (edits : List Edit) → k ≢ index → StandsIn block chunk s edits → HoldsIn block chunk s edits k
    → damage index s ≡ Ok s2
    → HoldsIn block chunk s2 edits k

-- Such a block has its digest.
abbrev pub HeldBlocksAreIntact : Type 0
HeldBlocksAreIntact = (block chunk k : ℕ) (l : Live) (s : Slot) (edits : List Edit) → s.live ≡ Some l → StandsIn block chunk s edits → HoldsIn block chunk s edits k
    → k < length l.replica.held.chunk.digests
    → is_intact block l.replica.held.chunk.bytes l.replica.held.chunk.digests k ≡ true

-- Where no block is damaged and digests tell the blocks apart, each block is such a block.
abbrev pub UndamagedBlocksAreHeld : Type 0
UndamagedBlocksAreHeld = (block chunk k : ℕ) (s : Slot) (edits : List Edit) → StandsIn block chunk s edits → IsToldIn block chunk s edits → LiveUndamaged s.live
    → HoldsIn block chunk s edits k

-- ---- an edit that is taken
-- An edit is taken under the promise alone, as the next number and of a new request.
abbrev pub EditsAreNext : Type 0
EditsAreNext = (stamp : Stamp) (number : ℕ) (req : ReqId) (op : Op) (bytes : List ℕ) (s s2 : Slot) → LiveUnder s.promise s.live → apply stamp number req op bytes s ≡ Ok s2
    → IsNextEdit stamp number req s s2

-- ---- an edit that is judged
-- An edit that is due is refused where the chunk alone refuses it, and with the same refusal.
abbrev pub EditsAreRefusedAsJudged : Type 0
EditsAreRefusedAsJudged = (stamp : Stamp) (number : ℕ) (req : ReqId) (op : Op) (bytes : List ℕ) (s : Slot) (l : Live) (e : Refusal) → s.live ≡ Some l
    → judged stamp number req l.replica.held ≡ None → edited_in op bytes s.live ≡ Err e
    → apply stamp number req op bytes s ≡ Err e

-- It is taken where the chunk alone takes it.
abbrev pub EditsAreTakenAsJudged : Type 0
EditsAreTakenAsJudged = (stamp : Stamp) (number : ℕ) (req : ReqId) (op : Op) (bytes : List ℕ) (s : Slot) (l : Live) (u : Stored) → s.live ≡ Some l
    → judged stamp number req l.replica.held ≡ None → edited_in op bytes s.live ≡ Ok u
    → is_ok (apply stamp number req op bytes s) ≡ true
