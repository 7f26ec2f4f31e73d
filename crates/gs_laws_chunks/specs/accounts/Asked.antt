-- Each edit in each list of a store is one that was asked for.
use Rattle.std.specs.Prelude.{◌≡◌, ℕ, Some, slice_get, take}
use Rattle.gs_base.specs.declared.numbers.Stamp.{Stamp}
use Rattle.gs_laws_chunks.specs.accounts.Accounts.{Account}
use Rattle.gs_laws_chunks.specs.accounts.Running.{IsReached, Setup}
use Rattle.gs_replica.specs.Stands.{Edit}
use Rattle.gs_world.specs.Histories.{History}
use Rattle.gs_laws_chunks.specs.accounts.Acknowledged.{IsAskedHere}

-- A message was sent that asks for it, and it is what is numbered for that operation behind the edits before it, with the bytes that were pushed. Of which chunk it was asked isn't said here: it
-- is another where this one is a copy.
abbrev pub EditsWereAsked : {D : Type 0} → Setup D → Type 0
EditsWereAsked {D} x = (now : History D) (a : Account) (chunk : ℕ) (stamp : Stamp) (place : ℕ) (edit : Edit) → IsReached x now a → slice_get (a.list chunk stamp) place ≡ Some edit
    → (handle : ℕ) × (under : Stamp) × IsAskedHere x.config.chunk now.sent handle edit.req under (take place (a.list chunk stamp)) edit
