-- What lines list behind a prepare, and behind its rollback.
use Rattle.std.specs.Prelude.{◌+◌, ◌≡◌, Bool, List, Ok, false, refl, true, ℕ}
use Rattle.gs_base.specs.Told.{IsNumber}
use Rattle.gs_base.specs.declared.config.Config.{Config}
use Rattle.gs_journal.specs.Records.{fresh, standing}
use Rattle.gs_msg.specs.declared.lists.ListedName.{ListedName}
use Rattle.gs_shell_calls.specs.declared.answer.Answer.TheVariants as answers
use Rattle.gs_shell_desk.specs.Answering.{AnswersText}
use Rattle.gs_shell_desk.specs.Lines.{Comes}
use Rattle.gs_shell_desk.specs.declared.desk.Desk.{Desk}
use Rattle.gs_shell_grammar.specs.Grammar.{Request}
use Rattle.gs_shell_grammar.specs.Grammar as lines
use Rattle.gs_shell_grammar.specs.declared.command.Upgrade.TheVariants as upgrades
use Rattle.gs_shell_grammar.specs.declared.command.UpgradeStep.TheVariants as steps
use Rattle.gs_shell_script.specs.Run.{Runs}
use Rattle.gs_laws_chunks.specs.desks.Within.{IsReachedWithin}

-- a line commits a prepare: behind its beginning, or by itself
abbrev pub commits_prepare : Request → Bool
commits_prepare (lines.RollingUpgrade upgrades.Prepare) = true
commits_prepare (lines.Step steps.PrepareCommit) = true
commits_prepare request = false

-- and so it does a rollback
abbrev pub commits_rollback : Request → Bool
commits_rollback (lines.RollingUpgrade upgrades.Rollback) = true
commits_rollback (lines.Step steps.RollbackCommit) = true
commits_rollback request = false

module _ {D : Type 0} (seen : D → List ℕ) (failures : D → ℕ) (config : Config) (disks : D × D) where
  -- Behind some lines a desk is asked to commit a prepare, with its beginning or without, and answers an epoch; right behind that `ls` of a path is answered by names. Then come any lines; then it is asked to commit a rollback, and answers the next epoch, as numbers of 64 bits; and right behind that the same `ls` is answered.
  pub record ListTwice (path : List ℕ) (epoch next : ℕ) (had has : List ListedName) : Type 0 where
    pub new : standing (seen disks.0) (seen disks.1) ≡ fresh
    pub follows : IsNumber epoch → IsNumber next → next ≡ epoch + 1
    pub begun : Desk D
    pub reached : IsReachedWithin seen failures config disks begun
    pub prepared : Desk D
    pub prepare_by : Request
    pub is_prepare : commits_prepare prepare_by ≡ true
    pub prepares : Comes seen failures prepare_by begun (Ok (answers.Number epoch)) prepared
    pub listed : Desk D
    pub lists : Comes seen failures (lines.Ls path) prepared (Ok (answers.Names had)) listed
    pub between : List (List ℕ)
    pub texts : List (List ℕ)
    pub later : Desk D
    pub passes : Runs (AnswersText seen failures) listed between texts later
    pub back : Desk D
    pub roll_by : Request
    pub is_rollback : commits_rollback roll_by ≡ true
    pub rolls : Comes seen failures roll_by later (Ok (answers.Number next)) back
    pub last : Desk D
    pub again : Comes seen failures (lines.Ls path) back (Ok (answers.Names has)) last

  -- Then both answer the same.
  abbrev pub ListTheSame : Type 0
  ListTheSame = (path : List ℕ) (epoch next : ℕ) (had has : List ListedName) → ListTwice path epoch next had has → has ≡ had

-- ---- examples

a_commit_by_itself : commits_prepare (lines.Step steps.PrepareCommit) ≡ true
a_commit_by_itself = refl

a_beginning_commits_nothing : commits_rollback (lines.Step steps.RollbackBegin) ≡ false
a_beginning_commits_nothing = refl
