-- What the laws of a slot say of the sealed image, wherever it stands.
use Rattle.std.specs.Prelude.{◌≡◌, ℕ, true, false, List, slice_index_or, Some, None, Ok, is_some}
use Rattle.gs_base.specs.declared.numbers.Stamp.{Stamp}
use Rattle.gs_base.specs.declared.numbers.ReqId.{ReqId}
use Rattle.gs_block.specs.Stored.{Stored}
use Rattle.gs_block.specs.Edits as blocks
use Rattle.gs_replica.specs.declared.op.Op.{Op}
use Rattle.gs_replica.specs.Seals.{Sealed}
use Rattle.gs_replica.specs.Stands.{Edit}
use Rattle.gs_store.specs.Slots.{Live, Slot, sound, damage, held_under, sealed_of}
use Rattle.gs_store.specs.Serving.{apply}
use Rattle.gs_store.specs.Moves.{sound_image}
use Rattle.gs_store_seal.specs.Rollback.{later}
use Rattle.gs_store.specs.Learning.{prepared, rolled_back, start_of}
use Rattle.gs_store.specs.Calls.{Call, LeadsTo, LeadsSparing, KeepSeal}
use Rattle.gs_store.specs.Standing.{StandsIn, StoodIn, LiveUndamaged, struck_by_damage, undone_in}

-- ---- the sealed image
-- An edit leaves what a copy carries of the sealed image.
abbrev pub EditsLeaveWhatIsCarried : Type 0
EditsLeaveWhatIsCarried = (stamp : Stamp) (number : ℕ) (req : ReqId) (op : Op) (bytes : List ℕ) (s s2 : Slot) → apply stamp number req op bytes s ≡ Ok s2
    → sound_image (sealed_of s2) ≡ sound_image (sealed_of s)

-- ---- what it stands for
-- An edit leaves the list that the sealed image stands for.
abbrev pub EditsLeaveWhatStood : Type 0
EditsLeaveWhatStood = (block chunk : ℕ) (stamp : Stamp) (number : ℕ) (req : ReqId) (op : Op) (bytes : List ℕ) (s s2 : Slot) (edits : List Edit) → StoodIn block chunk s edits
    → apply stamp number req op bytes s ≡ Ok s2
    → StoodIn block chunk s2 edits

-- Damage of a block that no edit has touched since the seal reaches what a rollback gives.
abbrev pub DamageReachesTheSealed : Type 0
DamageReachesTheSealed = (index : ℕ) (s s2 : Slot) (t : Sealed) (u : Stored) → struck_by_damage s ≡ Some t → slice_index_or t.touched index true ≡ false
    → blocks.damage t.undone index ≡ Ok u → damage index s ≡ Ok s2
    → undone_in (sealed_of s2) ≡ Some u

-- ---- a prepare
-- A rollback of what was prepared without a damaged block gives that replica, under the later of the promise and the first stamp
-- of the epoch.
abbrev pub PreparedSlotsRollBack : Type 0
PreparedSlotsRollBack = (epoch : ℕ) (s : Slot) (l : Live) → s.live ≡ Some l → LiveUndamaged s.live
    → (rolled_back epoch (prepared s)).live ≡ Some (sound (record { held = held_under (later s.promise (start_of epoch)) l.replica.held; sealed = None }))

-- ---- a rollback
-- What a rollback makes live stands for what was sealed, undamaged, under the later of the promise and the first stamp of the
-- epoch.
abbrev pub RollbacksStandForTheSealed : Type 0
RollbacksStandForTheSealed = (block chunk epoch : ℕ) (s : Slot) (edits : List Edit) → StoodIn block chunk s edits → is_some (rolled_back epoch s).live ≡ true
    → StandsIn block chunk (rolled_back epoch s) edits × LiveUndamaged (rolled_back epoch s).live × ((rolled_back epoch s).promise ≡ later s.promise (start_of epoch))

-- ---- a run of calls
-- What the sealed image stood for it stands for behind a run of calls that leave the seal.
abbrev pub RunsLeaveWhatStood : Type 0
RunsLeaveWhatStood = (block chunk : ℕ) (s end : Slot) (edits : List Edit) (calls : List Call) → StoodIn block chunk s edits → KeepSeal calls → LeadsTo block chunk s calls end
    → StoodIn block chunk end edits

-- Behind such a run from a prepare on, what a rollback makes live stands for what stood then, undamaged.
abbrev pub PreparedRunsGoBack : Type 0
PreparedRunsGoBack = (block chunk epoch : ℕ) (s end : Slot) (edits : List Edit) (calls : List Call) → StandsIn block chunk s edits → KeepSeal calls
    → LeadsTo block chunk (prepared s) calls end → is_some (rolled_back epoch end).live ≡ true
    → StandsIn block chunk (rolled_back epoch end) edits × LiveUndamaged (rolled_back epoch end).live

-- ---- a run that spares blocks
-- Where nothing was damaged at the prepare, and then only blocks that an edit had touched, a rollback makes a replica live.
abbrev pub SparedRunsGoBack : Type 0
SparedRunsGoBack = (block chunk epoch : ℕ) (s end : Slot) (calls : List Call) → is_some s.live ≡ true → LiveUndamaged s.live → KeepSeal calls
    → LeadsSparing block chunk (prepared s) calls end
    → is_some (rolled_back epoch end).live ≡ true
