-- Chunks that no file has, or has not had yet: what is settled of them.
use Rattle.std.specs.Prelude.{[], ◌++◌, ◌≡◌, None, Some, false, refl, true, ℕ}
use Rattle.gs_base.specs.declared.numbers.Stamp.{Stamp}
use Rattle.gs_lease.specs.declared.view.View.{View}
use Rattle.gs_master.specs.Masters.{MasterOf}
use Rattle.gs_laws_lift.specs.copies.Held.{AreHeld, IsIn, slot}
use Rattle.gs_nodes.specs.declared.place.MasterPlace.TheVariants.{Standing}
use Rattle.gs_laws_moves.specs.moves.Epochs.{rolls_back}
use Rattle.gs_master_spec.specs.Durable.{is_listed}
use Rattle.gs_master_spec.specs.declared.pending.Pending.{Pending}
use Rattle.gs_master_spec.specs.declared.pending.Waiting.TheVariants as waits
use Rattle.gs_path.specs.Path.{Path}
use Rattle.gs_world.specs.Histories.{History}
use Rattle.gs_world.specs.Runs.{Step}
use Rattle.gs_laws_chunks.specs.accounts.Accounts.{Account, settled_edits, view_at}
use Rattle.gs_laws_chunks.specs.accounts.Moving.{edits_of}
use Rattle.gs_laws_chunks.specs.accounts.Running.{IsReached, Moves, Setup}
use Rattle.gs_laws_lift.specs.stores.Copying.{copied_from}
use Rattle.gs_laws_runs.specs.plain.Settling.{newly_settled}
use Rattle.gs_laws_lift.specs.stores.Left.{as_left}

module _ {D : Type 0} (x : Setup D) where
  -- Of a chunk that no file has, once a view of it is settled, just those edits are settled of which it is a copy: none, where it is no copy.
  abbrev pub NewAreAsMade : Type 0
  NewAreAsMade = (now : History D) (a : Account) (chunk : ℕ) (view : View) → IsReached x now a → is_listed a.durable chunk ≡ false → view_at a chunk ≡ Some view → settled_edits a chunk ≡ edits_of a (copied_from now.sent chunk)

  -- And so it is where a step puts it into a file, with what is settled at the step.
  abbrev pub AddedAreAsMade : Type 0
  AddedAreAsMade = (old new : History D) (a b : Account) (step : Step) (chunk : ℕ) → IsReached x old a → Moves x step old a new b → rolls_back a.durable b.durable ≡ false →
      is_listed a.durable chunk ≡ false → is_listed b.durable chunk ≡ true → settled_edits a chunk ++ newly_settled a b chunk ≡ edits_of b (copied_from new.sent chunk)

  -- A call that waits, at a master of which no disk has failed, to copy a chunk at a place of a file, or for that copy, holds the place: nobody may write the chunk until the copy has come there.
  abbrev pub PlacesAreHeld : Type 0
  PlacesAreHeld = (now : History D) (a : Account) (m : MasterOf D) → IsReached x now a → as_left now.nodes.master ≡ Standing m → AreHeld m.state

  -- A call that waits for a copy, which was told to be one: it was told to be one of the chunk whose place it is to take, and as long as that stands there, all that is settled of it is what is copied.
  abbrev pub CopiesAreOfPlaces : Type 0
  CopiesAreOfPlaces = (now : History D) (a : Account) (m : MasterOf D) (p : Pending) (path : Path) (index old new source : ℕ) (at : Stamp) → IsReached x now a → as_left now.nodes.master ≡ Standing m → IsIn p m.state.volatile.pending →
      p.waits ≡ waits.Copy path index old new → slot m.state.durable.names path index ≡ Some old → copied_from now.sent new ≡ Some (source, at) → (source ≡ old) × (settled_edits a old ≡ a.list old at)

-- ---- Worked
of_no_copy_none : (a : Account) → edits_of a None ≡ []
of_no_copy_none a = refl
