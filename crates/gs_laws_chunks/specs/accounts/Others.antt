-- Where an edit of another chunk comes from.
use Rattle.std.specs.Prelude.{◌≡◌, Some, ℕ}
use Rattle.gs_base.specs.declared.numbers.ReqId.{ReqId}
use Rattle.gs_base.specs.declared.numbers.Stamp.{Stamp}
use Rattle.gs_laws_lift.specs.stores.Copying.{copied_from}
use Rattle.gs_world.specs.Histories.{History}
use Rattle.gs_laws_chunks.specs.accounts.Accounts.{Account}
use Rattle.gs_laws_chunks.specs.accounts.OnePlace.{IsAskedOf, StandsAt}
use Rattle.gs_laws_chunks.specs.accounts.Running.{IsReached, Setup}

-- the chunk is a copy, and the edit of the request stands in what was copied, at this place
pub record WasCopiedAt {D : Type 0} (now : History D) (a : Account) (chunk : ℕ) (req : ReqId) (place : ℕ) : Type 0 where
  pub source : ℕ
  pub at : Stamp
  pub copied : copied_from now.sent chunk ≡ Some (source, at)
  pub stands : StandsAt (a.list source at) req place

-- If a list of a chunk has an edit that was asked for of another chunk, it is one that was copied.
abbrev pub OthersWereCopied : {D : Type 0} → Setup D → Type 0
OthersWereCopied {D} x = (now : History D) (a : Account) (chunk other : ℕ) (req : ReqId) (stamp : Stamp) (place : ℕ) → IsReached x now a → IsAskedOf now.sent other req → (other ≡ chunk → ⊥) → StandsAt (a.list chunk stamp) req place → WasCopiedAt now a chunk req place
