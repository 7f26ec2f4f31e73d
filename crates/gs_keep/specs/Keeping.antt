-- What a run over a log does.
use Rattle.std.specs.Prelude.{◌≡◌, ◌++◌, ℕ, Bool, true, false, List, [], take, drop, map, Option, Some, IfSome, Result, Ok, Err}
use Rattle.gs_keep_log.specs.Log.{Held, MayLeave, whole}
use Rattle.gs_shell_script.specs.Run.{Runs}
use Rattle.gs_keep_mark.specs.Marks.{Entry, begins_from, marked, text_of, totals_behind}
use Rattle.gs_keep_mark.specs.Started.{AreBatches, IsBatch}
use Rattle.gs_keep_mark.specs.declared.Ledger.{Ledger}
use Rattle.gs_keep_mark.specs.Ledgers.{IsLedger}
use Rattle.gs_keep.specs.Lines.{joined, kept_behind, lines_taken, texts_taken}
use Rattle.gs_keep.specs.Replaying.{ReplayFails, RunsAgain}
use Rattle.gs_keep.specs.Running.{IsDone}
use Rattle.gs_keep.specs.Serving.{Fails, LeavesAtMost, RestsAt, Serves}
use Rattle.gs_keep.specs.declared.again.ReplayFault.TheVariants as again
use Rattle.gs_keep.specs.declared.fault.KeepFault.{KeepFault}
use Rattle.gs_keep.specs.declared.fault.KeepFault.TheVariants as keep
use Rattle.gs_keep.specs.declared.fault.StoreFault.{StoreFault}
use Rattle.gs_keep.specs.declared.fault.StoreFault.TheVariants as fault

-- ---- the log

-- A crash leaves a beginning of what the log held of its first `len` bytes, and behind it any bytes, no more than it held in all.
abbrev pub LeavesFront : ℕ → Option Held → Option Held → Type 0
LeavesFront len old new = IfSome old (λ h. LeavesAtMost (take len h.durable) (whole h) new)

-- each crash leaves these bytes, and any behind them
abbrev pub LeavesAll : List ℕ → Option Held → Type 0
LeavesAll front log = IfSome log (λ h. (c : List ℕ) → MayLeave h c → (behind : List ℕ) × (c ≡ front ++ behind))

-- The first `len` bytes of a log are its first line, and then this script.
abbrev pub HasHead : ℕ → Held → List ℕ → List ℕ → Type 0
HasHead len h script head = take len (whole h) ≡ head ++ script

-- The reader of a log's lines gives what stands in it behind its first line.
abbrev pub ReadsLog : List ℕ → ℕ → Option Held → Option (List ℕ) → Type 0
ReadsLog head len log logged = IfSome log (λ h. IfSome logged (λ script. HasHead len h script head))

-- The rest of a log is what stands after its first `len` bytes.
abbrev pub LeavesRest : ℕ → Option Held → List ℕ → Type 0
LeavesRest len log rest = IfSome log (λ h. drop len (whole h) ≡ rest)

-- ---- the fault

-- a run has ended for a call of the log
abbrev pub blames_log : {T : Type 0} → Result T StoreFault → Bool
blames_log (Ok value) = false
blames_log (Err (fault.Replay f)) = false
blames_log (Err fault.Aside) = false
blames_log (Err fault.Cut) = true
blames_log (Err (fault.Begin keep.Memory)) = false
blames_log (Err (fault.Begin keep.Read)) = false
blames_log (Err (fault.Begin keep.Write)) = false
blames_log (Err (fault.Begin keep.Unended)) = false
blames_log (Err (fault.Begin keep.TooMany)) = false
blames_log (Err (fault.Begin keep.Log)) = true
blames_log (Err (fault.Serve keep.Memory)) = false
blames_log (Err (fault.Serve keep.Read)) = false
blames_log (Err (fault.Serve keep.Write)) = false
blames_log (Err (fault.Serve keep.Unended)) = false
blames_log (Err (fault.Serve keep.TooMany)) = false
blames_log (Err (fault.Serve keep.Log)) = true

-- A log isn't changed before its lines are run again, and what stands after them is put aside.
abbrev pub IsUntouched : StoreFault → Type 0 → Type 0
IsUntouched (fault.Replay f) same = same
IsUntouched fault.Aside same = same
IsUntouched fault.Cut same = Unit {0}
IsUntouched (fault.Begin f) same = Unit {0}
IsUntouched (fault.Serve f) same = Unit {0}

-- A run that blames the reader of the log, or of the input, or the writer is told so by it.
abbrev pub IsTold : StoreFault → Type 0 → Type 0 → Type 0 → Type 0
IsTold (fault.Replay again.Read) unlogged unread unsent = unlogged
IsTold (fault.Replay again.Memory) unlogged unread unsent = Unit {0}
IsTold (fault.Replay (again.BadLine n)) unlogged unread unsent = Unit {0}
IsTold (fault.Replay (again.Mark n wrong)) unlogged unread unsent = Unit {0}
IsTold (fault.Replay again.TooMany) unlogged unread unsent = Unit {0}
IsTold fault.Aside unlogged unread unsent = Unit {0}
IsTold fault.Cut unlogged unread unsent = Unit {0}
IsTold (fault.Begin f) unlogged unread unsent = Unit {0}
IsTold (fault.Serve keep.Read) unlogged unread unsent = unread
IsTold (fault.Serve keep.Write) unlogged unread unsent = unsent
IsTold (fault.Serve keep.Memory) unlogged unread unsent = Unit {0}
IsTold (fault.Serve keep.Unended) unlogged unread unsent = Unit {0}
IsTold (fault.Serve keep.TooMany) unlogged unread unsent = Unit {0}
IsTold (fault.Serve keep.Log) unlogged unread unsent = Unit {0}

-- The log is only cut, and the input only answered, once the rest doesn't stand in the log alone.
abbrev pub AsideAs : {T : Type 0} → Result T StoreFault → Bool → Type 0
AsideAs (Ok value) is_alone = is_alone ≡ false
AsideAs (Err (fault.Replay f)) is_alone = Unit {0}
AsideAs (Err fault.Aside) is_alone = Unit {0}
AsideAs (Err fault.Cut) is_alone = is_alone ≡ false
AsideAs (Err (fault.Begin f)) is_alone = is_alone ≡ false
AsideAs (Err (fault.Serve f)) is_alone = is_alone ≡ false

-- For a relation that says what may be answered to a line, and a test that says which lines a machine acts on.
module _ {S : Type 0} (A : S → List ℕ → List ℕ → S → Type 0) (is_kept : List ℕ → Bool) where
  -- The batches that a log has are run again, and those of its lines that no mark stands behind, as a log of form 1 has them. Then the log is cut
  -- behind them, and a mark is put behind lines that have none.
  pub record Begins (start : S) (head : List ℕ) (before : ℕ) (script : List ℕ) (len : ℕ) (log log' : Option Held) (ledger : Ledger) (now : S) : Type 0 where
    pub batches : List (List Entry)
    pub last : List Entry
    pub again : RunsAgain A is_kept start (joined batches ++ last) now
    pub plain : AreBatches batches
    pub last_plain : IsBatch last
    pub is : script ≡ marked (begins_from head before) batches ++ text_of last
    pub told : IsLedger ledger (kept_behind (totals_behind (begins_from head before) batches) last)
    pub rests : IfSome log (λ h. RestsAt log' (kept_behind (totals_behind (begins_from head before) batches) last).text)

-- And for tests that say which lines it turns away, and which one of its own is due.
module _ {S : Type 0} (A : S → List ℕ → List ℕ → S → Type 0) (is_kept : List ℕ → Bool) (turns_away : S → List ℕ → Bool) (due : S → Option (List ℕ)) where
  -- A log is begun on, and then the input is served.
  pub record KeepsOn (start : S) (head : List ℕ) (before : ℕ) (script input : List ℕ) (len : ℕ) (log log' : Option Held) (out out' : Option (List ℕ)) (ended : Ledger) (end : S) : Type 0 where
    pub between : Option Held
    pub told : Ledger
    pub mid : S
    pub begins : Begins A is_kept start head before script len log between told mid
    pub serves : Serves A is_kept turns_away due mid input [] between log' out out' told ended end
    -- behind the input no line of the machine's own is due, or 32 were run at the end, or no more lines can be counted
    pub done : IsDone A is_kept turns_away due serves.turns end ended
    -- What was run again and what is answered since are the answers to the log's lines, and then to those of the input that aren't turned away and to the
    -- machine's own, one behind the other. Of the answers since, those to the input are sent.
    pub together : Runs A start (map (λ e. e.line) (joined begins.batches ++ begins.last) ++ lines_taken serves.turns) (map (λ e. e.answer) (joined begins.batches ++ begins.last) ++ texts_taken serves.turns) end
    -- what stands in the log then leads to where the run has come
    pub stands : RunsAgain A is_kept start ((joined begins.batches ++ begins.last) ++ joined serves.batches) end
    -- the ledger tells of the batches of before and of those of the run
    pub tells : IsLedger ended (totals_behind (kept_behind (totals_behind (begins_from head before) begins.batches) begins.last) serves.batches)
    -- the log holds these, each byte for good
    pub holds : IfSome log (λ h. RestsAt log' (totals_behind (kept_behind (totals_behind (begins_from head before) begins.batches) begins.last) serves.batches).text)

  -- A log is begun on, and then the run fails. Each crash leaves all that was answered, and any bytes behind it.
  pub record StopsOn (fault : KeepFault) (start : S) (head : List ℕ) (before : ℕ) (script input : List ℕ) (left : Option (List ℕ)) (len : ℕ) (log log' : Option Held) (out out' : Option (List ℕ)) (end : S) : Type 0 where
    pub between : Option Held
    pub told : Ledger
    pub mid : S
    pub begins : Begins A is_kept start head before script len log between told mid
    pub fails : Fails A is_kept turns_away due fault mid input left between log' out out' told end
    pub crashes : IfSome log (λ h. LeavesAll (totals_behind (kept_behind (totals_behind (begins_from head before) begins.batches) begins.last) fails.done.batches).text log')

  abbrev pub StoreFails : StoreFault → S → List ℕ → ℕ → List ℕ → List ℕ → Option (List ℕ) → ℕ → Option Held → Option Held → Option (List ℕ) → Option (List ℕ) → S → Type 0
  StoreFails (fault.Replay f) start head before script input left len log log' out out' end =
      (ledger : Ledger) × IsLedger ledger (begins_from head before) × ReplayFails A is_kept f start script ledger × (left ≡ Some input) × (log' ≡ log) × (out' ≡ out)
  StoreFails fault.Aside start head before script input left len log log' out out' end = (log' ≡ log) × (left ≡ Some input) × (out' ≡ out)
  StoreFails fault.Cut start head before script input left len log log' out out' end = LeavesFront len log log' × (left ≡ Some input) × (out' ≡ out)
  StoreFails (fault.Begin f) start head before script input left len log log' out out' end = IfSome log (λ h. LeavesAll (head ++ script) log') × (left ≡ Some input) × (out' ≡ out)
  StoreFails (fault.Serve f) start head before script input left len log log' out out' end = StopsOn f start head before script input left len log log' out out' end
