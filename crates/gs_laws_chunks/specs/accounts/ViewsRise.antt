-- How stamps of settled views rise.
use Rattle.std.specs.Prelude.{◌≡◌, List, Some, false, ℕ}
use Rattle.gs_base.specs.Stamps.{is_before}
use Rattle.gs_base.specs.declared.numbers.ReqId.{ReqId}
use Rattle.gs_lease.specs.declared.view.View.{View}
use Rattle.gs_world.specs.Histories.{History}
use Rattle.gs_world.specs.Runs.{Step}
use Rattle.gs_laws_chunks.specs.accounts.Accounts.{Account, view_at}
use Rattle.gs_laws_chunks.specs.accounts.Reading.{WasLocated}
use Rattle.gs_laws_chunks.specs.accounts.Running.{IsReached, Runs, Setup}

-- The settled view of a chunk is of no lower stamp later.
abbrev pub ViewsRise : {D : Type 0} → Setup D → Type 0
ViewsRise {D} x = (now later : History D) (a b : Account) (steps : List Step) (chunk : ℕ) (first last : View) → IsReached x now a → Runs x steps now a later b → view_at a chunk ≡ Some first → view_at b chunk ≡ Some last → is_before last.stamp first.stamp ≡ false

-- So no view that any client was ever told is of a stamp above that of the settled one.
abbrev pub LocationsAreNotAbove : {D : Type 0} → Setup D → Type 0
LocationsAreNotAbove {D} x = (now : History D) (a : Account) (req : ReqId) (chunk epoch : ℕ) (view last : View) → IsReached x now a → WasLocated now.sent req chunk view epoch → view_at a chunk ≡ Some last → is_before last.stamp view.stamp ≡ false
