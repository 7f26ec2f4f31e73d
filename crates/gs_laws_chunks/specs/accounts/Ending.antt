-- What an accepted prepare ends, and each settled view without a primary.
use Rattle.std.specs.Prelude.{◌<◌, ◌≡◌, List, None, Some, false, true, ℕ}
use Rattle.gs_base.specs.Stamps.{is_before}
use Rattle.gs_base.specs.declared.numbers.ReqId.{ReqId}
use Rattle.gs_lease.specs.declared.view.View.{View}
use Rattle.gs_master_spec.specs.Durable.{is_listed}
use Rattle.gs_world.specs.Histories.{History}
use Rattle.gs_world.specs.Runs.{Step}
use Rattle.gs_laws_chunks.specs.accounts.Accounts.{Account, settled_edits, view_at}
use Rattle.gs_laws_chunks.specs.accounts.Acknowledged.{is_undone}
use Rattle.gs_laws_chunks.specs.accounts.OnePlace.{IsAskedOf, StandsAt}
use Rattle.gs_laws_chunks.specs.accounts.Running.{IsReached, Runs, Setup}
use Rattle.gs_laws_chunks.specs.accounts.Upgrading.{IsUpgrading}

-- A prepare was accepted, and since then no finalize was, nor was a rollback done. A file had the chunk at the prepare. An edit was asked for of it under a stamp of an epoch before the one that the prepare began.
-- If it is settled now, it was settled right behind the prepare, at the same place.
abbrev pub PreparesEndEdits : {D : Type 0} → Setup D → Type 0
PreparesEndEdits {D} x = (prepared now : History D) (before after : Account) (chunk : ℕ) (req : ReqId) (place : ℕ) → IsUpgrading x prepared before now after → is_listed before.durable chunk ≡ true →
    (was : IsAskedOf now.sent chunk req) → was.stamp.epoch < before.durable.epoch → StandsAt (settled_edits after chunk) req place → StandsAt (settled_edits before chunk) req place

-- A file had a chunk whose settled view had no primary. An edit is asked for of it under a stamp that isn't above that of the view. If it is settled later, it was settled then, at the same place; unless the epoch of the view was ended by a rollback.
abbrev pub ViewsEndEdits : {D : Type 0} → Setup D → Type 0
ViewsEndEdits {D} x = (now later : History D) (a b : Account) (steps : List Step) (chunk : ℕ) (view : View) (req : ReqId) (place : ℕ) → IsReached x now a → Runs x steps now a later b → is_listed a.durable chunk ≡ true → view_at a chunk ≡ Some view → view.term ≡ None →
    (was : IsAskedOf later.sent chunk req) → is_before view.stamp was.stamp ≡ false → is_undone b.durable view.stamp ≡ false → StandsAt (settled_edits b chunk) req place → StandsAt (settled_edits a chunk) req place
