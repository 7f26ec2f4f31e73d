-- What every slot in memory keeps.
use Rattle.std.specs.Prelude.{◌≡◌, ℕ, ◌&&◌, Bool, true, false, Option, Some, None, is_some}
use Rattle.gs_base.specs.declared.numbers.Stamp.{Stamp}
use Rattle.gs_base.specs.Stamps.{is_before}
use Rattle.gs_replica.specs.Seals.{Sealed, State, stamp_of}
use Rattle.gs_replica.specs.Whole.{IsWhole}
use Rattle.gs_store.specs.Slots.{Live, Slot, sealed_of}

abbrev pub is_sealed : Option Live → Bool
is_sealed None = false
is_sealed (Some l) = is_some l.replica.sealed

-- a live replica stands under the handle's promise
abbrev pub LiveUnder : Stamp → Option Live → Type 0
LiveUnder promise None = Unit {0}
LiveUnder promise (Some l) = l.replica.held.promise ≡ promise

-- what stands in the trash is sealed
abbrev pub TrashSealed : Option State → Type 0
TrashSealed None = Unit {0}
TrashSealed (Some r) = is_some r.sealed ≡ true

-- a promise reaches the stamp of the lease taken last, or of the seal, if there is one
abbrev pub Reaches : Stamp → Option Stamp → Type 0
Reaches promise None = Unit {0}
Reaches promise (Some taken) = is_before promise taken ≡ false

-- A handle has one sealed image at most: a live replica that is sealed stands beside an empty trash.
pub record Keeps (promise : Stamp) (live : Option Live) (trash : Option State) (taken : Option Stamp) : Type 0 where
  pub live_is : LiveUnder promise live
  pub trash_is : TrashSealed trash
  pub one : (is_sealed live && is_some trash) ≡ false
  pub taken_is : Reaches promise taken

abbrev pub LiveWhole : Option Live → Type 0
LiveWhole None = Unit {0}
LiveWhole (Some l) = IsWhole l.replica

abbrev pub TrashWhole : Option State → Type 0
TrashWhole None = Unit {0}
TrashWhole (Some r) = IsWhole r

pub record IsWholeSlot (s : Slot) : Type 0 where
  pub keeps : Keeps s.promise s.live s.trash s.taken
  pub live : LiveWhole s.live
  pub trash : TrashWhole s.trash

-- Of a store's sizes: what stands, and what undoing gives.
abbrev pub SealHasSizes : ℕ → ℕ → Option Sealed → Type 0
SealHasSizes block chunk None = Unit {0}
SealHasSizes block chunk (Some t) = (t.undone.block ≡ block) × (t.undone.chunk ≡ chunk)

pub record HasSizes (block chunk : ℕ) (r : State) : Type 0 where
  pub block_is : r.held.chunk.block ≡ block
  pub chunk_is : r.held.chunk.chunk ≡ chunk
  pub undone : SealHasSizes block chunk r.sealed

abbrev pub LiveHasSizes : ℕ → ℕ → Option Live → Type 0
LiveHasSizes block chunk None = Unit {0}
LiveHasSizes block chunk (Some l) = HasSizes block chunk l.replica

abbrev pub TrashHasSizes : ℕ → ℕ → Option State → Type 0
TrashHasSizes block chunk None = Unit {0}
TrashHasSizes block chunk (Some r) = HasSizes block chunk r

-- a slot of a store of these sizes, whose promise reaches the stamp under which its image was sealed
pub record IsSlotOf (block chunk : ℕ) (s : Slot) : Type 0 where
  pub keeps : Keeps s.promise s.live s.trash s.taken
  pub live : LiveHasSizes block chunk s.live
  pub trash : TrashHasSizes block chunk s.trash
  pub sealed : Reaches s.promise (stamp_of (sealed_of s))
