-- Which chunks were told to be copies: each of which a view is settled, that wasn't made without edits.
use Rattle.std.specs.Prelude.{◌≡◌, Some, is_some, refl, true, ℕ}
use Rattle.std.specs.List.{AllByRecursion}
use Rattle.std.specs.FinMap as fin
use Rattle.gs_lease.specs.declared.view.View.{View}
use Rattle.gs_master.specs.Masters.{MasterOf}
use Rattle.gs_laws_lift.specs.copies.Made.{IsOfCopy, MakesNone, PutsCopy}
use Rattle.gs_master_spec.specs.declared.pending.Pending.{Pending}
use Rattle.gs_msg.specs.declared.message.Message.{Message}
use Rattle.gs_nodes.specs.declared.place.MasterPlace.TheVariants.{Standing}
use Rattle.gs_world.specs.Histories.{History}
use Rattle.gs_world.specs.Runs.{Step}
use Rattle.gs_world.specs.Sent.{Sent}
use Rattle.gs_laws_chunks.specs.accounts.Accounts.{Account, view_at}
use Rattle.gs_laws_chunks.specs.accounts.Running.{IsReached, Moves, Setup}
use Rattle.gs_laws_lift.specs.stores.Copying.{is_copied, tells_of_a_copy}
use Rattle.gs_laws_lift.specs.stores.Going.{AllSent}
use Rattle.gs_laws_lift.specs.stores.Left.{as_left}
use Rattle.gs_laws_runs.specs.plain.Written.{records_at}

-- nothing that was sent makes the chunk, without edits, on a server
abbrev pub IsMadeNowhere : Sent → ℕ → Type 0
IsMadeNowhere sent chunk = AllSent (λ (m : Message). MakesNone chunk m.body) sent

module _ {D : Type 0} (x : Setup D) where
  -- In each world of each run, whatever disks of the master fail: a chunk of which a view is settled was made on a server, or a server was told to make it as a copy.
  abbrev pub SettledWereMade : Type 0
  SettledWereMade = (now : History D) (a : Account) (chunk : ℕ) (view : View) → IsReached x now a → view_at a chunk ≡ Some view → IsMadeNowhere now.sent chunk → is_copied now.sent chunk ≡ true

  -- So a chunk that a call waits to put in the place of another was told to be a copy, once a view of it is settled:
  abbrev pub WaitingWereTold : Type 0
  WaitingWereTold = (now : History D) (a : Account) (m : MasterOf D) → IsReached x now a → as_left now.nodes.master ≡ Standing m →
      AllByRecursion (λ (p : Pending). IsOfCopy (λ copy. is_some (fin.get a.durable.chunks copy) ≡ true → is_copied now.sent copy ≡ true) p.waits) m.state.volatile.pending

  -- and each that the records of a step put in the place of another, once a view of it is settled behind the step, was told so before.
  abbrev pub PutWereTold : Type 0
  PutWereTold = (old new : History D) (a b : Account) (step : Step) → IsReached x old a → Moves x step old a new b →
      AllByRecursion (PutsCopy (λ copy. is_some (fin.get b.durable.chunks copy) ≡ true → is_copied old.sent copy ≡ true)) (records_at step old)

-- ---- Worked
a_copy_was_told : is_copied tells_of_a_copy 7 ≡ true
a_copy_was_told = refl
