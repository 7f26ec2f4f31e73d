-- What a slot stands for: its live replica for a list of edits, and what is sealed for another.
use Rattle.std.specs.Prelude.{◌≡◌, ℕ, ◌+◌, true, false, List, Option, Some, None}
use Rattle.gs_base.specs.declared.numbers.Stamp.{Stamp}
use Rattle.gs_base.specs.declared.numbers.ReqId.{ReqId}
use Rattle.gs_base.specs.Stamps.{is_same}
use Rattle.gs_block.specs.Kept.{Others}
use Rattle.gs_block.specs.Stored.{Stored}
use Rattle.gs_replica.specs.Edits.{is_old}
use Rattle.gs_replica.specs.Seals.{Sealed, State, lowest_damaged}
use Rattle.gs_replica.specs.Copies.{SealedImage, as_sealed}
use Rattle.gs_replica.specs.Stands.{Edit, StandsFor, HoldsBlock, IsToldFrom, StoodFor, SealToldFrom}
use Rattle.gs_store.specs.Slots.{Live, Slot, trashed_seal, sealed_of, count_of}
use Rattle.gs_store.specs.Serving.{done_in}

abbrev pub LiveStandsFor : ℕ → ℕ → Option Live → List Edit → Type 0
LiveStandsFor size limit None edits = ⊥
LiveStandsFor size limit (Some l) edits = StandsFor size limit l.replica.held edits

abbrev pub StandsIn : ℕ → ℕ → Slot → List Edit → Type 0
StandsIn size limit s edits = LiveStandsFor size limit s.live edits

-- a block of the live replica holds what a list gives of it
abbrev pub LiveHoldsBlock : ℕ → ℕ → Option Live → List Edit → ℕ → Type 0
LiveHoldsBlock size limit None edits k = ⊥
LiveHoldsBlock size limit (Some l) edits k = HoldsBlock size limit l.replica.held edits k

abbrev pub HoldsIn : ℕ → ℕ → Slot → List Edit → ℕ → Type 0
HoldsIn size limit s edits k = LiveHoldsBlock size limit s.live edits k

-- digests tell the blocks of a live replica from those that a list gives, where they differ
abbrev pub LiveToldFrom : ℕ → ℕ → Option Live → List Edit → Type 0
LiveToldFrom size limit None edits = Unit {0}
LiveToldFrom size limit (Some l) edits = IsToldFrom size limit l.replica.held edits

abbrev pub IsToldIn : ℕ → ℕ → Slot → List Edit → Type 0
IsToldIn size limit s edits = LiveToldFrom size limit s.live edits

-- the handle's sealed image, wherever it stands, is of a replica that stood for a list when it was sealed
abbrev pub StoodIn : ℕ → ℕ → Slot → List Edit → Type 0
StoodIn size limit s edits = StoodFor size limit (sealed_of s) edits

abbrev pub SealToldIn : ℕ → ℕ → Slot → List Edit → Type 0
SealToldIn size limit s edits = SealToldFrom size limit (sealed_of s) edits

-- no block of the live replica is damaged
abbrev pub LiveUndamaged : Option Live → Type 0
LiveUndamaged None = Unit {0}
LiveUndamaged (Some l) = lowest_damaged l.replica.held.chunk ≡ None

-- An edit that was accepted came under the promise, as the next number, and of a request above its client's last. Now it is the
-- count, and that request is none any more.
pub record IsNextEdit (stamp : Stamp) (number : ℕ) (req : ReqId) (old new : Slot) : Type 0 where
  pub promised : is_same stamp old.promise ≡ true
  pub before : ℕ
  pub next : number ≡ before + 1
  pub counted : count_of old.live ≡ Some before
  pub counts : count_of new.live ≡ Some number
  pub fresh : is_old req.number (done_in old.live req.client.0) ≡ false
  pub taken : is_old req.number (done_in new.live req.client.0) ≡ true
  pub promise : new.promise ≡ old.promise

-- what a copy of the sealed image would carry, if each block of it had its digest
abbrev pub image_in : Option Sealed → Option SealedImage
image_in None = None
image_in (Some t) = Some (as_sealed t)

-- what undoing gives, wherever it stands
abbrev pub undone_in : Option Sealed → Option Stored
undone_in None = None
undone_in (Some t) = Some t.undone

-- the seal of the replica that damage strikes: of the live one, or else of the one in the trash
abbrev pub struck_in : Option Live → Option State → Option Sealed
struck_in None trash = trashed_seal trash
struck_in (Some l) trash = l.replica.sealed

abbrev pub struck_by_damage : Slot → Option Sealed
struck_by_damage s = struck_in s.live s.trash

-- Behind damage of a block, every other block is as it was: of what is live, or else of what stands in the trash.
abbrev pub LiveOthers : ℕ → Option Live → Option Live → Type 0
LiveOthers index None new = new ≡ None
LiveOthers index (Some l) None = ⊥
LiveOthers index (Some l) (Some l2) = Others index l.replica.held.chunk l2.replica.held.chunk × (l2.bad ≡ l.bad)

abbrev pub TrashOthers : ℕ → Option Live → Option State → Option State → Type 0
TrashOthers index (Some l) old new = new ≡ old
TrashOthers index None None new = new ≡ None
TrashOthers index None (Some r) None = ⊥
TrashOthers index None (Some r) (Some r2) = Others index r.held.chunk r2.held.chunk

pub record LeavesOthers (index : ℕ) (s s2 : Slot) : Type 0 where
  pub live : LiveOthers index s.live s2.live
  pub trash : TrashOthers index s.live s.trash s2.trash
