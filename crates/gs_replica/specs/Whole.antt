-- What every replica in memory keeps.
use Rattle.std.specs.Prelude.{◌≡◌, Option, Some, None}
use Rattle.gs_block.specs.Stored.{Stored, IsStored}
use Rattle.gs_replica.specs.Seals.{Sealed, State}

-- undoing gives a chunk of the same sizes as the one that stands, with one digest for each block
pub record IsUndoneOf (s : Stored) (t : Sealed) : Type 0 where
  pub block : t.undone.block ≡ s.block
  pub chunk : t.undone.chunk ≡ s.chunk
  pub stored : IsStored t.undone

abbrev pub HasUndone : Stored → Option Sealed → Type 0
HasUndone s None = Unit {0}
HasUndone s (Some t) = IsUndoneOf s t

pub record IsWhole (r : State) : Type 0 where
  pub stands : IsStored r.held.chunk
  pub undoing : HasUndone r.held.chunk r.sealed
