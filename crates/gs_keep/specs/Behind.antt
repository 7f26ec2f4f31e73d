-- A log that begins where a run over another has ended.
use Rattle.std.specs.Prelude.{◌≡◌, ◌++◌, ◌+◌, ℕ, Bool, List, length, map, Option}
use Rattle.gs_keep_log.specs.Log.{Held}
use Rattle.gs_shell_script.specs.Run.{Runs}
use Rattle.gs_keep_mark.specs.Ledgers.{IsLedger}
use Rattle.gs_keep_mark.specs.Marks.{Entry, Totals}
use Rattle.gs_keep_mark.specs.declared.Ledger.{Ledger}
use Rattle.gs_keep.specs.Keeping.{KeepsOn}
use Rattle.gs_keep.specs.Lines.{joined, lines_taken, texts_taken}

-- So many lines are those of a log and before it, as its ledger tells.
abbrev pub Counts : Ledger → ℕ → Type 0
Counts ledger count = (t : Totals) → IsLedger ledger t → count ≡ t.count

-- For a relation that says what may be answered to a line, and tests that say which lines a machine acts on, which it turns away, and which one of its own is due.
module _ {S : Type 0} (A : S → List ℕ → List ℕ → S → Type 0) (is_kept : List ℕ → Bool) (turns_away : S → List ℕ → Bool) (due : S → Option (List ℕ)) where
  -- A run over a log that has so many lines before it ends well, and gives back this ledger.
  pub record Kept (start : S) (before : ℕ) (ended : Ledger) (end : S) : Type 0 where
    pub head : List ℕ
    pub script : List ℕ
    pub input : List ℕ
    pub len : ℕ
    pub log : Option Held
    pub log' : Option Held
    pub out : Option (List ℕ)
    pub out' : Option (List ℕ)
    pub keeps : KeepsOn A is_kept turns_away due start head before script input len log log' out out' ended end

  -- the lines that its machine was asked, first those that stood in the log
  abbrev pub lines_run : (start : S) (before : ℕ) (ended : Ledger) (end : S) → Kept start before ended end → List (List ℕ)
  lines_run start before ended end k = map (λ e. e.line) (joined k.keeps.begins.batches ++ k.keeps.begins.last) ++ lines_taken k.keeps.serves.turns

  -- its answers to these
  abbrev pub texts_run : (start : S) (before : ℕ) (ended : Ledger) (end : S) → Kept start before ended end → List (List ℕ)
  texts_run start before ended end k = map (λ e. e.answer) (joined k.keeps.begins.batches ++ k.keeps.begins.last) ++ texts_taken k.keeps.serves.turns

  -- the lines that stand in the log at the end
  abbrev pub logged : (start : S) (before : ℕ) (ended : Ledger) (end : S) → Kept start before ended end → List Entry
  logged start before ended end k = (joined k.keeps.begins.batches ++ k.keeps.begins.last) ++ joined k.keeps.serves.batches

  -- A log begins with the machine to which a run over another has come, behind as many lines as that one's ledger counts. Then the lines of both are
  -- run one behind the other, as in one log, and the ledger of the second counts those of both.
  abbrev pub GoesOnWhereAnotherEnded : Type 0
  GoesOnWhereAnotherEnded =
      (start mid end : S) (before count : ℕ) (told ended : Ledger)
      → Counts told count → (one : Kept start before told mid) → (two : Kept mid count ended end)
      → Runs A start (lines_run start before told mid one ++ lines_run mid count ended end two) (texts_run start before told mid one ++ texts_run mid count ended end two) end
      × Counts ended (before + (length (logged start before told mid one) + length (logged mid count ended end two)))
