-- What a run of a store that is kept does with its log, its input and its output.
use Rattle.std.specs.Prelude.{◌≡◌, ◌++◌, ◌∷◌, ◌≤◌, ◌⊎◌, ℕ, Bool, true, false, List, [], length, Option, Some, IfSome, Result, Ok, Err}
use Rattle.std.specs.Io.BufRead.{drop_through}
use Rattle.std.specs.Io.KnownBytes.{Appends}
use Rattle.gs_keep_log.specs.Log.{Held, MayLeave}
use Rattle.gs_shell_line.specs.Line.{StaysInLine}
use Rattle.gs_shell_script.specs.Run.{AppendsBeginning, lines_of, unlines}
use Rattle.gs_keep_mark.specs.Ledgers.{IsLedger, is_full}
use Rattle.gs_keep_mark.specs.Marks.{Entry, Totals, mark_of, passed, text_of, totals_behind, with_batch}
use Rattle.gs_keep_mark.specs.Started.{AreBatches, IsBatch}
use Rattle.gs_keep_mark.specs.declared.Ledger.{Ledger}
use Rattle.gs_keep.specs.Lines.{Turn, entries, joined, kept_behind, lines_asked, texts_of}
use Rattle.gs_keep.specs.Running.{AnswersAll, IsDone, IsUnended}
use Rattle.gs_keep.specs.declared.batch.Gathered.{Gathered}
use Rattle.gs_keep.specs.declared.batch.Gathered.TheVariants as gathered
use Rattle.gs_keep.specs.declared.fault.KeepFault.{KeepFault}
use Rattle.gs_keep.specs.declared.fault.KeepFault.TheVariants as fault

-- ---- the log

-- these bytes, and each crash leaves them
abbrev pub at_rest : List ℕ → Held
at_rest bytes = record { durable = bytes; pending = [] }

-- a log holds these bytes, each for good
abbrev pub RestsAt : Option Held → List ℕ → Type 0
RestsAt log text = log ≡ Some (at_rest text)

-- each crash leaves these bytes, and behind them no more than as many as these are
abbrev pub LeavesAtMost : List ℕ → List ℕ → Option Held → Type 0
LeavesAtMost front most log = IfSome log (λ h. (c : List ℕ) → MayLeave h c → (behind : List ℕ) × (length behind ≤ length most) × (c ≡ front ++ behind))

-- A log that rested grows by these bytes and the mark that is to stand behind them, for good. The ledger tells of all that the log holds then.
abbrev pub Seals : Ledger → Ledger → Option Held → Option Held → List ℕ → Type 0
Seals ledger ledger' log log' bytes =
    (is_full ledger' ≡ is_full ledger) × ((t : Totals) → IsLedger ledger t → IsLedger ledger' (passed t)
    × ((front : List ℕ) → front ++ bytes ≡ t.text → RestsAt log front → RestsAt log' (passed t).text))

-- Where that can't be: memory is lacking for the mark, or the log fails and may have any bytes behind what it held, no more than these.
abbrev pub SealFails : KeepFault → Ledger → Option Held → Option Held → List ℕ → Type 0
SealFails fault.Memory ledger log log' bytes = log' ≡ log
SealFails fault.Log ledger log log' bytes =
    (t : Totals) → IsLedger ledger t → (front : List ℕ) → RestsAt log front → LeavesAtMost front (bytes ++ mark_of t) log'
SealFails fault.Read ledger log log' bytes = ⊥
SealFails fault.Write ledger log log' bytes = ⊥
SealFails fault.Unended ledger log log' bytes = ⊥
SealFails fault.TooMany ledger log log' bytes = ⊥

-- so it is, if there are any bytes
abbrev pub Keeps : Ledger → Ledger → Option Held → Option Held → List ℕ → Type 0
Keeps ledger ledger' log log' [] = (ledger' ≡ ledger) × (log' ≡ log)
Keeps ledger ledger' log log' (x ∷ xs) = Seals ledger ledger' log log' (x ∷ xs)

-- so it is, if lines have no mark behind them
abbrev pub Closes : Bool → Ledger → Ledger → Option Held → Option Held → Type 0
Closes false ledger ledger' log log' = (ledger' ≡ ledger) × (log' ≡ log)
Closes true ledger ledger' log log' = Seals ledger ledger' log log' []

-- ---- the fault

-- a run has ended for a call of the log
abbrev pub blames_log : {T : Type 0} → Result T KeepFault → Bool
blames_log (Ok value) = false
blames_log (Err fault.Memory) = false
blames_log (Err fault.Read) = false
blames_log (Err fault.Write) = false
blames_log (Err fault.Unended) = false
blames_log (Err fault.TooMany) = false
blames_log (Err fault.Log) = true

-- what comes of a round whose lines are answered
abbrev pub Ends : Gathered → Result Bool KeepFault → Type 0
Ends gathered.Some result = result ≡ Ok true
Ends gathered.All result = result ≡ Ok false
Ends gathered.Unended result = result ≡ Err fault.Unended
Ends gathered.Failed result = result ≡ Err fault.Read
Ends gathered.Full result = result ≡ Err fault.TooMany

-- For a relation that says what may be answered to a line, and tests that say which lines a machine acts on, which it turns away, and which one of its own is due.
module _ {S : Type 0} (A : S → List ℕ → List ℕ → S → Type 0) (is_kept : List ℕ → Bool) (turns_away : S → List ℕ → Bool) (due : S → Option (List ℕ)) where
  -- ---- a run, or a part of one

  -- The lines of the input before the rest are run, and among them lines of the machine's own that were due. Those that have to be
  -- logged are, in batches, each with its mark and for good, and then the answers to the input's are written. At the end the ledger tells of all that the log holds.
  pub record Serves (start : S) (input rest : List ℕ) (log log' : Option Held) (out out' : Option (List ℕ)) (ledger ledger' : Ledger) (end : S) : Type 0 where
    pub turns : List Turn
    pub batches : List (List Entry)
    pub parts : lines_of input ≡ lines_asked turns ++ lines_of rest
    pub answers : AnswersAll A is_kept turns_away due start turns end
    pub written : Appends out out' (unlines (texts_of turns))
    pub logged : entries turns ≡ joined batches
    pub plain : AreBatches batches
    pub kept : (t : Totals) → IsLedger ledger t → IsLedger ledger' (totals_behind t batches) × (RestsAt log t.text → RestsAt log' (totals_behind t batches).text)

  -- all of the input
  pub record ServesAll (start : S) (input : List ℕ) (log log' : Option Held) (out out' : Option (List ℕ)) (ledger ledger' : Ledger) (end : S) : Type 0 where
    pub serves : Serves start input [] log log' out out' ledger ledger' end
    pub done : IsDone A is_kept turns_away due serves.turns end ledger'

  -- Where there are no more lines, that is all of the input.
  -- Behind them no line of the machine's own is due, or 32 were run, or no more lines can be counted.
  abbrev pub Rounds : S → Bool → List ℕ → Option (List ℕ) → Option Held → Option Held → Option (List ℕ) → Option (List ℕ) → Ledger → Ledger → S → Type 0
  Rounds start true input left log log' out out' ledger ledger' end =
      (rest : List ℕ) × (left ≡ Some rest) × (s : Serves start input rest log log' out out' ledger ledger' end) × (1 ≤ length (lines_asked s.turns)) × IsDone A is_kept turns_away due s.turns end ledger'
  Rounds start false input left log log' out out' ledger ledger' end = ServesAll start input log log' out out' ledger ledger' end

  -- ---- a run that fails

  -- some lines more were run, and wait for their answers
  pub record Waits (now : S) (rest : List ℕ) (end : S) : Type 0 where
    pub turns : List Turn
    pub back : List ℕ
    pub parts : lines_of rest ≡ lines_asked turns ++ lines_of back
    pub answers : AnswersAll A is_kept turns_away due now turns end
    pub plain : IsBatch (entries turns)

  -- Memory is lacking for an answer, or for the mark: of what was run since nothing is logged or answered. A read fails. The last line
  -- lacks its end. There are more lines than can be counted. In these three nothing more is run. A write fails: of the answers a beginning is written, and what has to be logged of their
  -- lines is, for good. The log fails: none of the answers is written, and a crash leaves any bytes behind what was kept.
  abbrev pub EndsWith : KeepFault → S → S → List ℕ → Option (List ℕ) → Option Held → Option Held → Option (List ℕ) → Option (List ℕ) → Ledger → List Turn → Type 0
  EndsWith fault.Memory now end rest left log log' out out' ledger turns = (log' ≡ log) × (out' ≡ out)
  EndsWith fault.Read now end rest left log log' out out' ledger turns = StaysInLine (Some rest) left × (log' ≡ log) × (out' ≡ out) × (end ≡ now)
  EndsWith fault.Unended now end rest left log log' out out' ledger turns = IsUnended rest × (left ≡ Some (drop_through 10 rest)) × (log' ≡ log) × (out' ≡ out) × (end ≡ now)
  EndsWith fault.TooMany now end rest left log log' out out' ledger turns =
      (left ≡ Some rest) × ((18446744073709551615 ≤ length (lines_asked turns)) ⊎ (is_full ledger ≡ true)) × (log' ≡ log) × (out' ≡ out) × (end ≡ now)
  EndsWith fault.Write now end rest left log log' out out' ledger turns =
      (w : Waits now rest end) × ((t : Totals) → IsLedger ledger t → RestsAt log t.text → RestsAt log' (kept_behind t (entries w.turns)).text)
      × AppendsBeginning out out' (unlines (texts_of w.turns))
  EndsWith fault.Log now end rest left log log' out out' ledger turns =
      (w : Waits now rest end)
      × ((t : Totals) → IsLedger ledger t → RestsAt log t.text → LeavesAtMost t.text (text_of (entries w.turns) ++ mark_of (with_batch t (entries w.turns))) log')
      × (out' ≡ out)

  -- Some lines are served, and then the run ends before the input does.
  pub record Fails (fault : KeepFault) (start : S) (input : List ℕ) (left : Option (List ℕ)) (log log' : Option Held) (out out' : Option (List ℕ)) (ledger : Ledger) (end : S) : Type 0 where
    pub now : S
    pub rest : List ℕ
    pub between : Option Held
    pub written : Option (List ℕ)
    pub told : Ledger
    pub done : Serves start input rest log between out written ledger told now
    pub last : EndsWith fault now end rest left between log' written out' told done.turns
