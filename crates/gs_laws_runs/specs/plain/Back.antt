-- An upgrade that is rolled back, in the words of the plain machine.
use Rattle.std.specs.Prelude.{[], ◌++◌, ◌∷◌, ◌≡◌, List, Ok, Some, codes, filter_map, refl, true, ℕ}
use Rattle.std.specs.List.{list_all}
use Rattle.gs_block.specs.Chunk.{written}
use Rattle.gs_edit.specs.Machine.{Plain, first, restored}
use Rattle.gs_laws_plain.specs.commands.Commands.{AddChunk, Command, Create, EditChunk, Mkdirs, Prepare, Rename, Rollback, Texts, all_commanded, but_edit}
use Rattle.gs_path.specs.Path.{Path}
use Rattle.gs_replica.specs.declared.op.Op.TheVariants as ops
use Rattle.gs_tree.specs.Entry.{Dir, File}
use Rattle.gs_world.specs.Histories.{History}
use Rattle.gs_laws_chunks.specs.accounts.Accounts.{Account}
use Rattle.gs_laws_chunks.specs.accounts.Back.{HasRolledBack}
use Rattle.gs_laws_chunks.specs.accounts.Running.{Runs, Setup}
use Rattle.gs_laws_chunks.specs.accounts.Upgrading.{RunsUpgraded}
use Rattle.gs_world.specs.Runs.{Step}
use Rattle.gs_laws_runs.specs.plain.Ends.{edits_only}
use Rattle.gs_laws_runs.specs.plain.Plainly.{IsPlainRun, IsPlainStep}
use Rattle.gs_laws_runs.specs.plain.Views.{plain_view}

module _ {D : Type 0} (x : Setup D) where
  abbrev pub shown : Account → Plain (List ℕ)
  shown a = plain_view x.config.chunk a

  -- a run from a prepare on that isn't ended is a run
  abbrev pub as_run : (steps : List Step) (old : History D) (a : Account) (new : History D) (b : Account) → RunsUpgraded x steps old a new b → Runs x steps old a new b
  as_run [] old a new b runs = runs
  as_run (step ∷ steps) old a new b (mid, c, one, still, rest) = (mid, c, one, as_run steps mid c new b rest)

  -- Right behind a prepare the tree that stands is kept. From there to the rollback the run is commands that edit names and texts, so it is kept still; and behind the rollback it stands, and none is kept. Of the
  -- commands of the step of the prepare, of the run behind it and of the step of the rollback, those that edit no text are a prepare, then edits of names, and then a rollback.
  pub record GoesBackPlainly (prepared : History D) (before : Account) (now : History D) (after : Account) (back : History D) (last : Account) (rolled : HasRolledBack x prepared before now after back last) : Type 0 where
    pub begins : IsPlainStep x.config.chunk rolled.upgrade.step rolled.upgrade.old prepared rolled.upgrade.first before
    pub keeps : (shown before).kept ≡ Some (shown before).tree
    pub within : IsPlainRun x rolled.upgrade.steps prepared before now after (as_run rolled.upgrade.steps prepared before now after rolled.upgrade.runs)
    pub edits : list_all edits_only within.commands ≡ true
    pub still : (shown after).kept ≡ Some (shown before).tree
    pub ends : IsPlainStep x.config.chunk rolled.step now back after last
    pub gives : shown last ≡ restored (shown after) (shown before).tree
    pub others : filter_map but_edit (begins.commands ++ (within.commands ++ ends.commands)) ≡ Prepare ∷ filter_map but_edit within.commands ++ Rollback ∷ []

  -- So it is of each rollback that is done in a run, whatever disks of the master fail, with the last prepare that was accepted before it.
  abbrev pub RollbacksGoBackPlainly : Type 0
  RollbacksGoBackPlainly = (prepared now back : History D) (before after last : Account) (rolled : HasRolledBack x prepared before now after back last) → GoesBackPlainly prepared before now after back last rolled

-- ---- Worked, with chunks of 4 bytes: a file is made and written, an upgrade begins, the file is edited and moved, and all is as it was

abbrev f : Path
f = codes "f" ∷ []

abbrev d : Path
d = codes "d" ∷ []

abbrev up_to_its_prepare : List Command
up_to_its_prepare = Create f ∷ AddChunk f ∷ EditChunk f 0 (ops.Write 1) (7 ∷ 8 ∷ []) ∷ Prepare ∷ []

abbrev up_to_its_rollback : List Command
up_to_its_rollback = EditChunk f 0 ops.Append (9 ∷ []) ∷ AddChunk f ∷ Mkdirs d ∷ Rename f d ∷ []

abbrev its_tree : Texts
its_tree = ([], Dir) ∷ (f, File ((0 ∷ 7 ∷ 8 ∷ []) ∷ [])) ∷ []

its_prepare_keeps_the_tree : all_commanded 4 up_to_its_prepare first ≡ Ok (record { tree = its_tree; kept = Some its_tree })
unfolding written
its_prepare_keeps_the_tree = refl

then_it_edits : list_all edits_only up_to_its_rollback ≡ true
then_it_edits = refl

its_rollback_puts_it_back : (m : Plain (List ℕ)) → all_commanded 4 (up_to_its_prepare ++ up_to_its_rollback ++ Rollback ∷ []) first ≡ Ok (restored m its_tree)
unfolding written
its_rollback_puts_it_back m = refl
