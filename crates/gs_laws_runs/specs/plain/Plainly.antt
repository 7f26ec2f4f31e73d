-- A run of a store is a run of the plain machine.
use Rattle.std.specs.Prelude.{[], ◌++◌, ◌∷◌, ◌≡◌, List, Ok, Some, false, filter_map, map, refl, take, true, ℕ}
use Rattle.gs_edit.specs.Machine.{first}
use Rattle.gs_laws_plain.specs.commands.Commands.{Command, all_commanded, but_edit, command_of, edit_at}
use Rattle.gs_laws_plain.specs.commands.Places.{AreAlone, op_of}
use Rattle.gs_laws_moves.specs.moves.Epochs.{rolls_back}
use Rattle.gs_master_spec.specs.Durable.{is_listed}
use Rattle.gs_master_spec.specs.Applied.{replayed}
use Rattle.gs_path.specs.Path.{Path}
use Rattle.gs_world.specs.Histories.{History}
use Rattle.gs_world.specs.Runs.{Step}
use Rattle.gs_laws_chunks.specs.accounts.Accounts.{Account, settled_edits}
use Rattle.gs_laws_chunks.specs.accounts.Running.{IsNew, IsReached, Moves, Runs, Setup}
use Rattle.gs_laws_runs.specs.plain.Ends.{EndsAs}
use Rattle.gs_laws_runs.specs.plain.Settling.{newly_settled, settled_at}
use Rattle.gs_laws_runs.specs.plain.Views.{chunk_at, plain_view}
use Rattle.gs_laws_world.specs.steady.Through.{is_sound_at}
use Rattle.gs_laws_runs.specs.plain.Written.{AreWhole, records_at}

-- The step is a list of commands of the plain machine, which lead from the plain view before it to the one behind it. Those that edit no text are what
-- its records say, each once and in their order; of the records those stand that were written: where no disk of the master has failed behind the step, all,
-- or, where memory was wanting, none, or all but the checkpoint at their end. Those that edit a text are, at each place of a file, the
-- edits that are settled there, each once and in their order: what is settled of a chunk then is what was, and these behind it, unless a rollback is committed.
-- At a prepare one of them keeps the tree, and at the commit of a rollback one puts it back.
pub record IsPlainStep {D : Type 0} (size : ℕ) (step : Step) (old new : History D) (a b : Account) : Type 0 where
  pub commands : List Command
  pub leads : all_commanded size commands (plain_view size a) ≡ Ok (plain_view size b)
  pub written : ℕ
  pub records : replayed a.durable (take written (records_at step old)) ≡ Some b.durable
  pub whole : is_sound_at new.nodes.master ≡ true → AreWhole (records_at step old) written
  pub others : filter_map but_edit commands ≡ filter_map command_of (take written (records_at step old))
  pub edits : (p : Path) (index : ℕ) → filter_map (edit_at p index) commands ≡ map op_of (settled_at a b (chunk_at a p index))
  pub ends : EndsAs size a b commands
  pub grows : (chunk : ℕ) → rolls_back a.durable b.durable ≡ false → is_listed b.durable chunk ≡ true → settled_edits a chunk ++ newly_settled a b chunk ≡ settled_edits b chunk

module _ {D : Type 0} (x : Setup D) where
  -- The plain view of a new store is the plain machine that has done nothing;
  abbrev pub BeginsPlain : Type 0
  BeginsPlain = (begun : History D) (a : Account) → IsNew x begun a → plain_view x.config.chunk a ≡ first

  -- each step of each run is such, whatever disks of the master fail at it, or have failed: of a turn that is cut those of its records stand that were written;
  abbrev pub StepsArePlain : Type 0
  StepsArePlain = (old new : History D) (a b : Account) (step : Step) → IsReached x old a → Moves x step old a new b → IsPlainStep x.config.chunk step old new a b

  -- and so a run is: at each of its steps commands by what it is, one after the other.
  abbrev pub ArePlainSteps : (steps : List Step) (old : History D) (a : Account) (new : History D) (b : Account) → Runs x steps old a new b → List Command → Type 0
  ArePlainSteps [] old a new b runs commands = commands ≡ []
  ArePlainSteps (step ∷ steps) old a new b (mid, c, one, rest) commands =
      (first : IsPlainStep x.config.chunk step old mid a c) × (more : List Command) × (commands ≡ first.commands ++ more) × ArePlainSteps steps mid c new b rest more

  pub record IsPlainRun (steps : List Step) (old : History D) (a : Account) (new : History D) (b : Account) (runs : Runs x steps old a new b) : Type 0 where
    pub commands : List Command
    pub go : ArePlainSteps steps old a new b runs commands
    pub leads : all_commanded x.config.chunk commands (plain_view x.config.chunk a) ≡ Ok (plain_view x.config.chunk b)

  abbrev pub RunsArePlain : Type 0
  RunsArePlain = (old new : History D) (a b : Account) (steps : List Step) → IsReached x old a → (runs : Runs x steps old a new b) → IsPlainRun steps old a new b runs

  -- ---- what it rests on

  -- An edit is settled only of a chunk that stands at one place: no other text changes with it.
  abbrev pub EditsOnePlace : Type 0
  EditsOnePlace = (old new : History D) (a b : Account) (step : Step) → IsReached x old a → Moves x step old a new b → AreAlone a.durable.names (newly_settled a b)

-- ---- Worked: no steps are no commands
no_steps : {D : Type 0} (x : Setup D) (old : History D) (a : Account) → IsPlainRun x [] old a old a (refl, refl)
no_steps x old a = record { commands = []; go = refl; leads = refl }
