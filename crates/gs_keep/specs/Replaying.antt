-- What it is to run the lines of a log again.
use Rattle.std.specs.Prelude.{◌≡◌, ◌++◌, ◌∷◌, ◌+◌, ◌<◌, ◌≤◌, ◌≢◌, ◌⊎◌, ℕ, Bool, true, false, List, [], length, take, codes, Option, Some, refl}
use Rattle.std.specs.Io.BufRead.{ends_with_byte, take_through, drop_through}
use Rattle.gs_shell_script.specs.Run.{AnswersLine}
use Rattle.gs_keep_mark.specs.Ledgers.{IsLedger, is_full}
use Rattle.gs_keep_mark.specs.Marks.{Entry, Totals, digits_of, mark_of, mark_text, marked, noted, passed, starts_mark, text_of, totals_behind, with_batch}
use Rattle.gs_keep_mark.specs.Started.{AreBatches, IsBatch}
use Rattle.gs_keep_mark.specs.declared.Ledger.{Ledger}
use Rattle.gs_keep.specs.Lines.{MayStand, is_logged, joined}
use Rattle.gs_keep.specs.declared.again.Replayed.{Replayed}
use Rattle.gs_keep.specs.declared.again.Replaying.{Replaying}
use Rattle.gs_keep.specs.declared.again.Replaying.TheVariants as replaying
use Rattle.gs_keep.specs.declared.again.ReplayFault.{ReplayFault}
use Rattle.gs_keep.specs.declared.again.ReplayFault.TheVariants as fault
use Rattle.gs_keep.specs.declared.again.Wrong.{Wrong}
use Rattle.gs_keep.specs.declared.again.Wrong.TheVariants as wrongs

-- ---- why it ends

-- The first part of a line that isn't as in a mark: what it says of the count of the lines before it, of their text, or of their answers.
abbrev pub Differs : Wrong → List ℕ → List ℕ → Type 0
Differs wrongs.Count line mark = take 22 line ≢ take 22 mark
Differs wrongs.Text line mark = (take 22 line ≡ take 22 mark) × (take 87 line ≢ take 87 mark)
Differs wrongs.Answers line mark = (take 87 line ≡ take 87 mark) × (line ≢ mark)

-- a line isn't the mark that it has to be
abbrev pub RefusesMark : ℕ → ReplayFault → List ℕ → Ledger → Type 0
RefusesMark number fault.Read line ledger = ⊥
RefusesMark number fault.Memory line ledger = Unit {0}
RefusesMark number (fault.BadLine n) line ledger = ⊥
RefusesMark number (fault.Mark n wrong) line ledger = (n ≡ number) × ((t : Totals) → IsLedger ledger t → Differs wrong line (mark_of t))
RefusesMark number fault.TooMany line ledger = ⊥

-- For a test that says which lines a machine acts on.
module _ (is_kept : List ℕ → Bool) where
  -- a line without its end is none
  abbrev pub RefusesLine : ℕ → ReplayFault → List ℕ → Type 0
  RefusesLine number fault.Read line = ⊥
  RefusesLine number fault.Memory line = Unit {0}
  RefusesLine number (fault.BadLine n) line = (n ≡ number) × (is_kept line ≡ false)
  RefusesLine number (fault.Mark n wrong) line = ⊥
  RefusesLine number fault.TooMany line = ⊥

  -- a line is none, or isn't the mark that it has to be
  abbrev pub RefusesText : ℕ → ReplayFault → List ℕ → Ledger → Type 0
  RefusesText number fault.Read line ledger = ⊥
  RefusesText number fault.Memory line ledger = Unit {0}
  RefusesText number (fault.BadLine n) line ledger = (n ≡ number) × (is_logged is_kept line ≡ false)
  RefusesText number (fault.Mark n wrong) line ledger = (n ≡ number) × (starts_mark line ≡ true) × ((t : Totals) → IsLedger ledger t → Differs wrong line (mark_of t))
  RefusesText number fault.TooMany line ledger = ⊥

  -- The next line is none, or not the mark that it has to be, or no more can be counted.
  abbrev pub RefusesOne : ℕ → ReplayFault → List ℕ → Ledger → Type 0
  RefusesOne number fault.Read xs ledger = Unit {0}
  RefusesOne number fault.Memory xs ledger = Unit {0}
  RefusesOne number (fault.BadLine n) xs ledger =
      (n ≡ number) × (0 < length xs) × ((is_logged is_kept (take_through 10 xs) ≡ false) ⊎ (ends_with_byte 10 (take_through 10 xs) ≡ false))
  RefusesOne number (fault.Mark n wrong) xs ledger =
      (n ≡ number) × (starts_mark (take_through 10 xs) ≡ true) × ((t : Totals) → IsLedger ledger t → Differs wrong (take_through 10 xs) (mark_of t))
  RefusesOne number fault.TooMany xs ledger = (18446744073709551615 ≤ number) ⊎ (is_full ledger ≡ true)

-- For a relation that says what may be answered to a line, and a test that says which lines a machine acts on.
module _ {S : Type 0} (A : S → List ℕ → List ℕ → S → Type 0) (is_kept : List ℕ → Bool) where
  -- Logged lines are run, one after another, and each is answered so.
  abbrev pub RunsAgain : S → List Entry → S → Type 0
  RunsAgain old [] new = new ≡ old
  RunsAgain old (e ∷ more) new = (mid : S) × MayStand is_kept e.line e.answer × AnswersLine A old e.line e.answer mid × RunsAgain mid more new

  -- So far these batches are run, and behind them these lines that no mark stands behind yet.
  pub record ReplaysPart (start : S) (script rest : List ℕ) (number lines : ℕ) (is_open : Bool) (ledger ledger' : Ledger) (now : S) : Type 0 where
    pub batches : List (List Entry)
    pub last : List Entry
    pub runs : RunsAgain start (joined batches ++ last) now
    pub plain : AreBatches batches
    pub last_plain : IsBatch last
    pub counted : length (joined batches ++ last) ≡ lines
    pub numbered : number ≡ lines + length batches
    pub none_open : is_open ≡ false → last ≡ []
    pub some_open : is_open ≡ true → 0 < length last
    pub is : (t : Totals) → IsLedger ledger t → (script ≡ marked t batches ++ (text_of last ++ rest)) × IsLedger ledger' (with_batch (totals_behind t batches) last)

  -- Each line of a script is run again, and each mark of it is what it has to be.
  abbrev pub Replays : S → List ℕ → Replayed → Ledger → Ledger → S → Type 0
  Replays start script done ledger ledger' end = ReplaysPart start script [] (done.lines + done.marks) done.lines done.is_open ledger ledger' end

  abbrev pub ReplaysSoFar : S → List ℕ → Option (List ℕ) → ℕ → ℕ → Bool → Ledger → Ledger → S → Type 0
  ReplaysSoFar start xs left number lines is_open ledger ledger' now =
      (rest : List ℕ) × (left ≡ Some rest) × ReplaysPart start xs rest number lines is_open ledger ledger' now

  -- a line is run again
  pub record RunsLine (line : List ℕ) (old new : S) (ledger ledger' : Ledger) : Type 0 where
    pub text : List ℕ
    pub logged : MayStand is_kept line text
    pub ended : ends_with_byte 10 line ≡ true
    pub answers : AnswersLine A old line text new
    pub noted : (t : Totals) → IsLedger ledger t → IsLedger ledger' (noted t (record { line = line; answer = text }))

  -- a line is run again, or it is the mark that it has to be
  abbrev pub ReplaysText : Replaying → List ℕ → Ledger → Ledger → S → S → Type 0
  ReplaysText replaying.End line ledger ledger' old new = ⊥
  ReplaysText replaying.Mark line ledger ledger' old new = (new ≡ old) × ((t : Totals) → IsLedger ledger t → (line ≡ mark_of t) × IsLedger ledger' (passed t))
  ReplaysText replaying.Line line ledger ledger' old new = (starts_mark line ≡ false) × RunsLine line old new ledger ledger'

  -- One line more is run again, or it is the mark that it has to be, or there is none.
  abbrev pub ReplaysOne : Replaying → List ℕ → Option (List ℕ) → Ledger → Ledger → S → S → Type 0
  ReplaysOne replaying.End xs left ledger ledger' old new = (xs ≡ []) × (ledger' ≡ ledger) × (new ≡ old)
  ReplaysOne replaying.Mark xs left ledger ledger' old new =
      (0 < length xs) × (left ≡ Some (drop_through 10 xs)) × (new ≡ old)
      × ((t : Totals) → IsLedger ledger t → (take_through 10 xs ≡ mark_of t) × IsLedger ledger' (passed t))
  ReplaysOne replaying.Line xs left ledger ledger' old new =
      (0 < length xs) × (left ≡ Some (drop_through 10 xs)) × (starts_mark (take_through 10 xs) ≡ false) × RunsLine (take_through 10 xs) old new ledger ledger'

  -- Some lines are run again, and then one can't be.
  pub record ReplayFails (fault : ReplayFault) (start : S) (script : List ℕ) (ledger : Ledger) : Type 0 where
    pub rest : List ℕ
    pub number : ℕ
    pub lines : ℕ
    pub is_open : Bool
    pub told : Ledger
    pub now : S
    pub part : ReplaysPart start script rest number lines is_open ledger told now
    pub refused : RefusesOne is_kept number fault rest told

-- ---- an example

digest_of_64 : List ℕ
digest_of_64 = codes "0123456789abcdef0123456789abcdef0123456789abcdef0123456789abcdef"

a_count_stands_first : take 22 (mark_text 3 digest_of_64 digest_of_64) ≡ codes "# 00000000000000000003"
unfolding digits_of mark_text digest_of_64
a_count_stands_first = refl

then_a_text : take 87 (mark_text 3 digest_of_64 digest_of_64) ≡ codes "# 00000000000000000003 0123456789abcdef0123456789abcdef0123456789abcdef0123456789abcdef"
unfolding digits_of mark_text digest_of_64
then_a_text = refl
