-- What the laws of a store say of the slots of its handles.
use Rattle.std.specs.Prelude.{◌≡◌, ℕ, ◌+◌, ◌==◌, true, false, List, Ok, is_some}
use Rattle.gs_base.specs.declared.numbers.ReqId.{ReqId}
use Rattle.gs_base.specs.declared.numbers.Stamp.{Stamp}
use Rattle.gs_replica.specs.declared.op.Op.{Op}
use Rattle.gs_base.specs.declared.epoch.EpochEnd.{EpochEnd}
use Rattle.gs_base.specs.declared.epoch.EpochEnd.TheVariants.{Rollback}
use Rattle.gs_base.specs.declared.refusal.Refusal.{Refusal}
use Rattle.gs_base.specs.Stamps.{is_before}
use Rattle.std.specs.Prelude.{Result}
use Rattle.gs_replica.specs.Stands.{Edit}
use Rattle.gs_store.specs.Slots.{Slot, sealed_of}
use Rattle.gs_store.specs.Whole.{IsWholeSlot}
use Rattle.gs_store.specs.Moves.{sound_image}
use Rattle.gs_store.specs.Learning.{start_of}
use Rattle.gs_store.specs.Standing.{StandsIn, StoodIn, LiveUndamaged}
use Rattle.gs_store.specs.StoreCalls.{names}
use Rattle.gs_store.specs.Buffers as buffers
use Rattle.gs_store.specs.Stores.{Store, slot_of, at_slot, learn, gone_on, apply_pushed}

-- ---- a call of one handle
-- A call of one handle leaves the slot of every other one.
abbrev pub CallsLeaveOtherSlots : Type 0
CallsLeaveOtherSlots = (handle other : ℕ) (call : Slot → Result Slot Refusal) (s s2 : Store) → (other == handle) ≡ false → at_slot handle call s ≡ Ok s2
    → slot_of other s2 ≡ slot_of other s

-- An edit of pushed bytes takes these out, and leaves the other slots and the epoch.
abbrev pub PushedEditsLeaveTheRest : Type 0
PushedEditsLeaveTheRest = (handle other number : ℕ) (stamp : Stamp) (req : ReqId) (op : Op) (s s2 : Store) → (other == handle) ≡ false
    → apply_pushed handle stamp number req op s ≡ Ok s2
    → (slot_of other s2 ≡ slot_of other s) × (s2.buffer ≡ buffers.without req s.buffer) × (s2.epoch ≡ s.epoch)

-- ---- an epoch that is learned
-- The next epoch takes each slot on.
abbrev pub EachSlotGoesOn : Type 0
EachSlotGoesOn = (epoch : ℕ) (end : EpochEnd) (s s2 : Store) → epoch ≡ s.epoch + 1 → learn epoch end s ≡ Ok s2 → (handle : ℕ)
    → slot_of handle s2 ≡ gone_on end epoch (slot_of handle s)

-- ---- a rollback
-- A replica is live exactly where one was sealed and each block of it has its sealed digest.
abbrev pub RollbacksMakeTheSoundLive : Type 0
RollbacksMakeTheSoundLive = (epoch handle : ℕ) (s s2 : Store) → epoch ≡ s.epoch + 1 → learn epoch Rollback s ≡ Ok s2
    → is_some (slot_of handle s2).live ≡ is_some (sound_image (sealed_of (slot_of handle s)))

-- Exactly these are named, where the promise was not above the first stamp of the epoch.
abbrev pub RollbacksNameTheLive : Type 0
RollbacksNameTheLive = (epoch handle : ℕ) (s s2 : Store) → epoch ≡ s.epoch + 1 → learn epoch Rollback s ≡ Ok s2 → IsWholeSlot (slot_of handle s)
    → is_before (start_of epoch) (slot_of handle s).promise ≡ false
    → names handle epoch s2 ≡ is_some (slot_of handle s2).live

-- What is live stands for what was sealed, undamaged.
abbrev pub RollbacksStandForTheSealed : Type 0
RollbacksStandForTheSealed = (epoch handle : ℕ) (s s2 : Store) (edits : List Edit) → epoch ≡ s.epoch + 1 → learn epoch Rollback s ≡ Ok s2
    → StoodIn s.block s.chunk (slot_of handle s) edits → is_some (slot_of handle s2).live ≡ true
    → StandsIn s2.block s2.chunk (slot_of handle s2) edits × LiveUndamaged (slot_of handle s2).live
