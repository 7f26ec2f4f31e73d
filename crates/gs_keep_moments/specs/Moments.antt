-- A run over a log at any moment.
use Rattle.std.specs.Prelude.{◌≡◌, ◌++◌, ◌⊎◌, ◌<◌, ◌-◌, ℕ, Bool, true, List, Option}
use Rattle.gs_keep_log.specs.Log.{Held}
use Rattle.gs_shell_script.specs.Run.{AppendsBeginning, lines_of, unlines}
use Rattle.gs_keep_mark.specs.Marks.{Entry, begins_from, marked, text_of, totals_behind}
use Rattle.gs_keep_mark.specs.Started.{AreBatches}
use Rattle.gs_keep.specs.Keeping.{LeavesAll, LeavesFront}
use Rattle.gs_keep.specs.Lines.{Turn, entries, joined, kept_behind, lines_asked, texts_of}
use Rattle.gs_keep.specs.Replaying.{RunsAgain}
use Rattle.gs_keep.specs.Running.{AnswersAll}
use Rattle.gs_keep_moments.specs.declared.stopping.StoppingLog.{StoppingLog}

-- A call counts down. Where none is left the log below is as it was, and no call passes any more. Else the log hasn't stopped.
pub record Stops {L : Type 0} (old new : StoppingLog L) : Type 0 where
  pub counted : new.calls ≡ old.calls - 1
  pub stopped : old.calls ≡ 0 → (new.log ≡ old.log) × (new.has_stopped ≡ true)
  pub passed : 0 < old.calls → new.has_stopped ≡ old.has_stopped

-- For a relation that says what may be answered to a line, and tests that say which lines a machine acts on, which it turns away, and which one of its own is due.
module _ {S : Type 0} (A : S → List ℕ → List ℕ → S → Type 0) (is_kept : List ℕ → Bool) (turns_away : S → List ℕ → Bool) (due : S → Option (List ℕ)) where
  -- The lines that the log had are run again, and some of the input behind them. What has gone out is a beginning of the answers to these. Each crash leaves
  -- all that has to be logged of them, in batches, each with its mark, behind the lines that the log had, and any bytes behind that.
  pub record Answered (start : S) (head : List ℕ) (before : ℕ) (script input : List ℕ) (log' : Option Held) (out out' : Option (List ℕ)) : Type 0 where
    pub batches : List (List Entry)
    pub last : List Entry
    pub turns : List Turn
    pub more : List (List Entry)
    pub rest : List ℕ
    pub mid : S
    pub now : S
    pub is : script ≡ marked (begins_from head before) batches ++ text_of last
    pub again : RunsAgain A is_kept start (joined batches ++ last) mid
    pub parts : lines_of input ≡ lines_asked turns ++ lines_of rest
    pub answers : AnswersAll A is_kept turns_away due mid turns now
    pub gone_out : AppendsBeginning out out' (unlines (texts_of turns))
    pub logged : entries turns ≡ joined more
    pub plain : AreBatches more
    pub left : LeavesAll (totals_behind (kept_behind (totals_behind (begins_from head before) batches) last) more).text log'

  -- Nothing has gone out, and a crash leaves what the log had, or a beginning of that where it is being cut; or some lines are answered.
  abbrev pub AtMoment : S → List ℕ → ℕ → List ℕ → List ℕ → ℕ → Option Held → Option Held → Option (List ℕ) → Option (List ℕ) → Type 0
  AtMoment start head before script input len log log' out out' =
      ((out' ≡ out) × (LeavesFront len log log' ⊎ LeavesAll (head ++ script) log')) ⊎ Answered start head before script input log' out out'
