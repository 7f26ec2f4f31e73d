-- What a start of a log does, from the log as it stands.
use Rattle.std.specs.Prelude.{◌≡◌, ◌<◌, ◌++◌, ◌⊎◌, ℕ, Bool, false, List, length, take, drop, Option, Some, None, Result, Ok, Err}
use Rattle.std.specs.Io.BufRead.{ends_with_byte, take_through}
use Rattle.gs_keep_log.specs.Log.{Held}
use Rattle.gs_shell_line.specs.Line.{content, longest_line}
use Rattle.gs_keep_mark.specs.declared.Ledger.{Ledger}
use Rattle.gs_keep_measure.specs.Extent.{Extends}
use Rattle.gs_keep_measure.specs.Measure.{IsWhole, Measures}
use Rattle.gs_keep_measure.specs.Measure as measuring
use Rattle.gs_keep_measure.specs.Tail.{tail_fault}
use Rattle.gs_keep_measure.specs.declared.Measure.{Measure}
use Rattle.gs_keep_measure.specs.declared.extent.Extent.{Extent}
use Rattle.gs_keep_measure.specs.declared.extent.ExtentFault.{ExtentFault}
use Rattle.gs_keep_measure.specs.declared.tail.TailFault.{TailFault}
use Rattle.gs_keep.specs.Keeping.{AsideAs, KeepsOn, StoreFails}
use Rattle.gs_keep.specs.Keeping as run
use Rattle.gs_keep.specs.declared.fault.StoreFault.{StoreFault}
use Rattle.gs_keep.specs.declared.standing.FirstLineFault.{FirstLineFault}
use Rattle.gs_keep.specs.declared.standing.FirstLineFault.TheVariants as line
use Rattle.gs_keep.specs.declared.standing.StandingFault.{StandingFault}
use Rattle.gs_keep.specs.declared.standing.StandingFault.TheVariants as standing
use Rattle.gs_keep.specs.declared.starting.StartFault.{StartFault}
use Rattle.gs_keep.specs.declared.starting.StartFault.TheVariants as fault

-- ---- what stands in a log

-- the first line of a text, with its end
abbrev pub IsHead : List ℕ → List ℕ → Type 0
IsHead text line = (line ≡ take_through 10 text) × IsWhole line

-- What is found in a text: how far it has whole lines and marks, its first line, how much of it is run again, and what stands after that, which
-- is what a crash may leave there.
pub record Stands (text : List ℕ) (measure : Measure) (is_second : Bool) (head : List ℕ) (extent : Extent) (tail : List ℕ) : Type 0 where
  pub measured : Measures text measure
  pub first : IsHead text head
  pub extends : Extends (Ok extent) is_second measure (length head) (length text)
  pub rest : tail ≡ drop extent.whole text
  pub may_be_left : tail_fault is_second measure head tail ≡ None

-- ---- why nothing of it is run again

-- A first line isn't given exactly where it lacks its end or is longer than a line may be, unless a read fails or memory is lacking.
abbrev pub LacksHead : FirstLineFault → List ℕ → Type 0
LacksHead (line.Read e) text = Unit {0}
LacksHead line.Memory text = Unit {0}
LacksHead line.NoLine text = (ends_with_byte 10 (take_through 10 text) ≡ false) ⊎ (longest_line < length (content (take_through 10 text)))

-- For what machine begins for a first line, and why a first line is refused.
module _ {S E : Type 0} (Begins : List ℕ → Bool → ℕ → S → Type 0) (RefusesHead : List ℕ → E → Type 0) where
  -- More stands after what would be run again than a crash leaves, or the text is shorter than that.
  pub record RefusesExtent (f : ExtentFault) (text : List ℕ) : Type 0 where
    pub measure : Measure
    pub is_second : Bool
    pub head : List ℕ
    pub before : ℕ
    pub machine : S
    pub measured : Measures text measure
    pub first : IsHead text head
    pub begins : Begins head is_second before machine
    pub extends : Extends (Err f) is_second measure (length head) (length text)

  -- What stands after so many lines, which would be run again, isn't what a crash leaves.
  pub record RefusesTail (f : TailFault) (lines : ℕ) (text : List ℕ) : Type 0 where
    pub measure : Measure
    pub is_second : Bool
    pub head : List ℕ
    pub before : ℕ
    pub machine : S
    pub extent : Extent
    pub measured : Measures text measure
    pub first : IsHead text head
    pub begins : Begins head is_second before machine
    pub extends : Extends (Ok extent) is_second measure (length head) (length text)
    pub counted : lines ≡ extent.lines
    pub found : tail_fault is_second measure head (drop extent.whole text) ≡ Some f

  abbrev pub Refuses : StandingFault E → List ℕ → Type 0
  Refuses (standing.Read e) text = Unit {0}
  Refuses (standing.Measure f) text = measuring.Refuses f text
  Refuses (standing.FirstLine f) text = LacksHead f text
  Refuses (standing.Head e) text = (head : List ℕ) × IsHead text head × RefusesHead head e
  Refuses (standing.Extent f) text = RefusesExtent f text
  Refuses standing.Shorter text = ⊥
  Refuses (standing.Tail f lines) text = RefusesTail f lines text

-- ---- a start

-- a start has ended for a call of the log
abbrev pub blames_log : {T E : Type 0} → Result T (StartFault E) → Bool
blames_log (Ok value) = false
blames_log (Err (fault.Standing f)) = false
blames_log (Err (fault.Run f)) = run.blames_log {T = Ledger} (Err f)

-- A log isn't changed before all its lines are run again, and what stands after them is put aside.
abbrev pub IsUntouched : {E : Type 0} → StartFault E → Type 0 → Type 0
IsUntouched (fault.Standing f) same = same
IsUntouched (fault.Run f) same = run.IsUntouched f same

-- A start that blames the reader of the input, or the writer, is told so by it.
abbrev pub IsTold : {E : Type 0} → StartFault E → Type 0 → Type 0 → Type 0
IsTold (fault.Standing f) unread unsent = Unit {0}
IsTold (fault.Run f) unread unsent = run.IsTold f (Unit {0}) unread unsent

-- For what may be answered to a line, which lines a machine acts on, which it turns away, which one of its own is due, and what machine begins for a first line.
module _ {S : Type 0} (A : S → List ℕ → List ℕ → S → Type 0) (is_kept : List ℕ → Bool) (turns_away : S → List ℕ → Bool) (due : S → Option (List ℕ)) (Begins : List ℕ → Bool → ℕ → S → Type 0) where
  -- What is run again is exactly what the measure of a log says, on a machine that begins new for its first line. This is what stands after it.
  pub record Found (text tail : List ℕ) : Type 0 where
    pub measure : Measure
    pub is_second : Bool
    pub head : List ℕ
    pub before : ℕ
    pub script : List ℕ
    pub extent : Extent
    pub machine : S
    pub stands : Stands text measure is_second head extent tail
    pub begins : Begins head is_second before machine
    pub lines : take extent.whole text ≡ head ++ script

  -- What stands in a log is run again, what stands after that is put aside and cut off, and then the input is answered.
  pub record Starts (text input : List ℕ) (log log' : Option Held) (out out' : Option (List ℕ)) (aside : List ℕ) (is_alone : Bool) (ended : Ledger) (end : S) : Type 0 where
    pub found : Found text aside
    pub not_alone : is_alone ≡ false
    pub keeps : KeepsOn A is_kept turns_away due found.machine found.head found.before found.script input found.extent.whole log log' out out' ended end

  -- so it is begun, and then it fails
  pub record Breaks (f : StoreFault) (text input : List ℕ) (left : Option (List ℕ)) (log log' : Option Held) (out out' : Option (List ℕ)) (aside : List ℕ) (is_alone : Bool) : Type 0 where
    pub found : Found text aside
    pub end : S
    pub alone : AsideAs {T = Ledger} (Err f) is_alone
    pub fails : StoreFails A is_kept turns_away due f found.machine found.head found.before found.script input left found.extent.whole log log' out out' end

  -- And for why a first line is refused.
  module _ {E : Type 0} (RefusesHead : List ℕ → E → Type 0) where
    abbrev pub StartFails : StartFault E → List ℕ → List ℕ → Option (List ℕ) → Option Held → Option Held → Option (List ℕ) → Option (List ℕ) → List ℕ → Bool → Type 0
    StartFails (fault.Standing f) text input left log log' out out' aside is_alone =
        Refuses Begins RefusesHead f text × (log' ≡ log) × (left ≡ Some input) × (out' ≡ out)
    StartFails (fault.Run f) text input left log log' out out' aside is_alone = Breaks f text input left log log' out out' aside is_alone
