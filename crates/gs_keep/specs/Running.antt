-- Lines are run, and wait for their answers to go out.
use Rattle.std.specs.Prelude.{◌≡◌, ◌++◌, ◌∷◌, ◌<◌, ◌≤◌, ◌⊎◌, ℕ, Bool, true, false, List, [], length, map, Option, Some, None}
use Rattle.std.specs.List.{AllByRecursion}
use Rattle.std.specs.Io.BufRead.{ends_with_byte, take_through, drop_through}
use Rattle.gs_shell_line.specs.Line.{StaysInLine}
use Rattle.gs_shell_script.specs.Run.{AnswersLine, lines_of, memory_text, unlines}
use Rattle.gs_keep_mark.specs.Ledgers.{IsLedger, is_full}
use Rattle.gs_keep_mark.specs.Marks.{Totals, text_of, with_batch}
use Rattle.gs_keep_mark.specs.Started.{IsBatch}
use Rattle.gs_keep_mark.specs.declared.Ledger.{Ledger}
use Rattle.gs_keep.specs.Lines.{MayStand, Turn, entries, is_away, is_logged, lines_asked, own_at_end, texts_of, turned_away_text}
use Rattle.gs_keep.specs.declared.batch.Gathered.{Gathered}
use Rattle.gs_keep.specs.declared.batch.Gathered.TheVariants as gathered

-- the line that stands next lacks its end
abbrev pub IsUnended : List ℕ → Type 0
IsUnended rest = (0 < length rest) × (ends_with_byte 10 (take_through 10 rest) ≡ false)

-- what a reader has left behind the lines that were run
abbrev pub LeftBy : Gathered → List ℕ → Option (List ℕ) → Type 0
LeftBy gathered.Some rest left = left ≡ Some rest
LeftBy gathered.All rest left = (rest ≡ []) × (left ≡ Some rest)
LeftBy gathered.Unended rest left = IsUnended rest × (left ≡ Some (drop_through 10 rest))
LeftBy gathered.Failed rest left = StaysInLine (Some rest) left
LeftBy gathered.Full rest left = left ≡ Some rest

-- For a relation that says what may be answered to a line, and tests that say which lines a machine acts on, which it turns away, and which one of its own is due.
module _ {S : Type 0} (A : S → List ℕ → List ℕ → S → Type 0) (is_kept : List ℕ → Bool) (turns_away : S → List ℕ → Bool) (due : S → Option (List ℕ)) where
  -- What is logged may stand there. What isn't changes nothing, and is none of the grammar, or memory is lacking for it.
  abbrev pub LoggedAs : Bool → S → Turn → S → Type 0
  LoggedAs true old turn new = MayStand is_kept turn.line turn.text
  LoggedAs false old turn new = (new ≡ old) × ((is_logged is_kept turn.line ≡ false) ⊎ (turn.text ≡ memory_text))

  -- a line is answered by the machine
  pub record Ran (old : S) (turn : Turn) (new : S) : Type 0 where
    pub answers : AnswersLine A old turn.line turn.text new
    pub logged : LoggedAs turn.logged old turn new

  -- A line isn't run: nothing changes, nothing of it is logged, and its answer says so, or that memory is lacking.
  pub record IsUnrun (old : S) (turn : Turn) (new : S) : Type 0 where
    pub same : new ≡ old
    pub unlogged : turn.logged ≡ false
    pub told : (turn.text ≡ turned_away_text) ⊎ (turn.text ≡ memory_text)

  abbrev pub RunsUnless : Bool → S → Turn → S → Type 0
  RunsUnless true old turn new = IsUnrun old turn new
  RunsUnless false old turn new = Ran old turn new

  -- A line of the machine's own was due. It is run and logged.
  abbrev pub DueIf : Bool → S → Turn → Type 0
  DueIf false old turn = Unit {0}
  DueIf true old turn = (due old ≡ Some turn.line) × (turn.away ≡ false) × (turn.logged ≡ true)

  -- Exactly the lines that the machine turns away aren't run.
  pub record AnswersTurn (old : S) (turn : Turn) (new : S) : Type 0 where
    pub away : turn.away ≡ is_away turns_away old turn.line
    pub runs : RunsUnless turn.away old turn new
    pub own : DueIf turn.own old turn

  -- so are some lines, one after another
  abbrev pub AnswersAll : S → List Turn → S → Type 0
  AnswersAll old [] new = new ≡ old
  AnswersAll old (turn ∷ turns) new = (mid : S) × AnswersTurn old turn mid × AnswersAll mid turns new

  -- One line more is run. It is put behind the bytes that have to be logged, if it has to be, and its answer behind the answers.
  pub record RunsOne (line : List ℕ) (old new : S) (bytes bytes' answers answers' : List ℕ) (ledger ledger' : Ledger) : Type 0 where
    pub turn : Turn
    pub line_is : turn.line ≡ line
    pub read : turn.own ≡ false
    pub ended : turn.logged ≡ true → ends_with_byte 10 turn.line ≡ true
    pub runs : AnswersTurn old turn new
    pub logged : bytes' ≡ bytes ++ text_of (entries (turn ∷ []))
    pub answered : answers' ≡ answers ++ (turn.text ++ 10 ∷ [])
    pub noted : (t : Totals) → IsLedger ledger t → IsLedger ledger' (with_batch t (entries (turn ∷ [])))

  -- The lines of the input before the rest are run, so many at least. These bytes have to be logged, and these are their answers.
  pub record RunsSome (most : ℕ) (input rest : List ℕ) (old new : S) (bytes answers : List ℕ) (ledger ledger' : Ledger) : Type 0 where
    pub turns : List Turn
    pub many : most ≤ length (lines_asked turns)
    pub parts : lines_of input ≡ lines_asked turns ++ lines_of rest
    pub runs : AnswersAll old turns new
    pub plain : IsBatch (entries turns)
    pub logged : bytes ≡ text_of (entries turns)
    pub answered : answers ≡ unlines (texts_of turns)
    pub noted : (t : Totals) → IsLedger ledger t → IsLedger ledger' (with_batch t (entries turns))

  -- Where lines are gathered: at least one, if there may be more.
  abbrev pub at_least : Gathered → ℕ
  at_least gathered.Some = 1
  at_least gathered.All = 0
  at_least gathered.Unended = 0
  at_least gathered.Failed = 0
  at_least gathered.Full = 0

  abbrev pub FullIf : Gathered → Ledger → Type 0
  FullIf gathered.Full ledger = is_full ledger ≡ true
  FullIf gathered.Some ledger = Unit {0}
  FullIf gathered.All ledger = Unit {0}
  FullIf gathered.Unended ledger = Unit {0}
  FullIf gathered.Failed ledger = Unit {0}

  -- Where lines of the input are gathered.
  pub record Takes (result : Gathered) (input : List ℕ) (left : Option (List ℕ)) (old new : S) (bytes answers : List ℕ) (ledger ledger' : Ledger) : Type 0 where
    pub rest : List ℕ
    pub left_by : LeftBy result rest left
    pub full : FullIf result ledger'
    pub runs : RunsSome (at_least result) input rest old new bytes answers ledger ledger'

  -- ---- lines of the machine's own

  -- One line of the machine's own is run, and put behind the bytes that have to be logged.
  pub record RunsOwn (old new : S) (bytes bytes' : List ℕ) (ledger ledger' : Ledger) : Type 0 where
    pub turn : Turn
    pub mine : turn.own ≡ true
    pub runs : AnswersTurn old turn new
    pub plain : IsBatch (entries (turn ∷ []))
    pub logged : bytes' ≡ bytes ++ text_of (entries (turn ∷ []))
    pub noted : (t : Totals) → IsLedger ledger t → IsLedger ledger' (with_batch t (entries (turn ∷ [])))

  -- Some are, one after another: none where no more lines can be counted.
  pub record RunsMine (old new : S) (bytes bytes' : List ℕ) (ledger ledger' : Ledger) : Type 0 where
    pub turns : List Turn
    pub mine : AllByRecursion (λ t. t.own ≡ true) turns
    pub runs : AnswersAll old turns new
    pub plain : IsBatch (entries turns)
    pub logged : bytes' ≡ bytes ++ text_of (entries turns)
    pub noted : (t : Totals) → IsLedger ledger t → IsLedger ledger' (with_batch t (entries turns))
    pub full : is_full ledger ≡ true → ledger' ≡ ledger

  -- They are run as long as one is due, up to 32, and as long as lines can be counted.
  pub record RunsDue (old new : S) (bytes bytes' : List ℕ) (ledger ledger' : Ledger) : Type 0 where
    pub mine : RunsMine old new bytes bytes' ledger ledger'
    pub few : length mine.turns ≤ 32
    pub all : (due new ≡ None) ⊎ ((32 ≤ length mine.turns) ⊎ (is_full ledger' ≡ true))

  -- Behind some lines no line of the machine's own is due, or 32 were run at the end, or no more lines can be counted.
  abbrev pub IsDone : List Turn → S → Ledger → Type 0
  IsDone turns new ledger = (due new ≡ None) ⊎ ((32 ≤ own_at_end 0 turns) ⊎ (is_full ledger ≡ true))

  -- Where lines of the input are gathered, and then those of the machine's own that are due.
  pub record Gathers (result : Gathered) (input : List ℕ) (left : Option (List ℕ)) (old new : S) (bytes answers : List ℕ) (ledger ledger' : Ledger) : Type 0 where
    pub takes : Takes result input left old new bytes answers ledger ledger'
    pub done : IsDone takes.runs.turns new ledger'

  -- ---- a machine without lines of its own

  -- What it is asked is what was read, and all its answers are sent.
  abbrev pub SendsAll : S → List Turn → S → Type 0
  SendsAll old turns new = AnswersAll old turns new → (lines_asked turns ≡ map (λ t. t.line) turns) × (texts_of turns ≡ map (λ t. t.text) turns)
