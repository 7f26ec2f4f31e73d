-- Lines that are run, and what of them is logged.
use Rattle.std.specs.Prelude.{◌≡◌, ◌≢◌, ◌+◌, ◌++◌, ◌∷◌, ◌&&◌, ℕ, Bool, true, false, List, [], length, nat_le, map, codes, if◌then◌else◌, refl}
use Rattle.gs_shell_line.specs.Line.{content, longest_line}
use Rattle.gs_shell_script.specs.Run.{memory_text}
use Rattle.gs_keep_mark.specs.Marks.{Entry, Totals, behind}
use Rattle.gs_keep_mark.specs.Started.{IsInLine}

-- A line with its end, that was read or was due of the machine's own. It was answered by a text, and logged or not, and turned away or not.
pub record Turn : Type 0 where
  pub line : List ℕ
  pub text : List ℕ
  pub logged : Bool
  pub away : Bool
  pub own : Bool

-- the lines that were read
abbrev pub lines_asked : List Turn → List (List ℕ)
lines_asked [] = []
lines_asked (t ∷ turns) = if t.own then lines_asked turns else t.line ∷ lines_asked turns

-- the answers to these
abbrev pub texts_of : List Turn → List (List ℕ)
texts_of [] = []
texts_of (t ∷ turns) = if t.own then texts_of turns else t.text ∷ texts_of turns

-- how many lines of its own a machine has run at the end, behind so many
abbrev pub own_at_end : ℕ → List Turn → ℕ
own_at_end n [] = n
own_at_end n (t ∷ turns) = if t.own then own_at_end (n + 1) turns else own_at_end 0 turns

-- those of them that a machine was asked about
abbrev pub taken : List Turn → List Turn
taken [] = []
taken (t ∷ turns) = if t.away then taken turns else t ∷ taken turns

-- the lines that it was asked about, its own too, and its answers
abbrev pub lines_taken : List Turn → List (List ℕ)
lines_taken turns = map (λ t. t.line) (taken turns)

abbrev pub texts_taken : List Turn → List (List ℕ)
texts_taken turns = map (λ t. t.text) (taken turns)

-- what of them stands in the log
abbrev pub entries : List Turn → List Entry
entries [] = []
entries (t ∷ turns) = if t.logged then record { line = t.line; answer = t.text } ∷ entries turns else entries turns

-- batches, one behind the other
abbrev pub joined : List (List Entry) → List Entry
joined [] = []
joined (batch ∷ more) = batch ++ joined more

-- Where something has to be logged, it stands in the log with its mark.
abbrev pub kept_behind : Totals → List Entry → Totals
kept_behind t [] = t
kept_behind t (e ∷ batch) = behind t (e ∷ batch)

-- the answer to a line that isn't taken from the input, though it may stand in a log
abbrev pub turned_away_text : List ℕ
turned_away_text = codes "refused 39 NeedsLab"

-- For a test that says which lines, without their ends, a machine in some state turns away.
module _ {S : Type 0} (turns_away : S → List ℕ → Bool) where
  -- a line with its end is turned away
  abbrev pub is_away : S → List ℕ → Bool
  is_away s line = nat_le (length (content line)) longest_line && turns_away s (content line)

-- For a test that says which lines, without their ends, a machine acts on.
module _ (is_kept : List ℕ → Bool) where
  -- a line with its end has to be logged
  abbrev pub is_logged : List ℕ → Bool
  is_logged line = nat_le (length (content line)) longest_line && is_kept (content line)

  -- A line may stand in a log with this answer: it has to be logged, and the answer isn't one for want of memory.
  abbrev pub MayStand : List ℕ → List ℕ → Type 0
  MayStand line text = (is_logged line ≡ true) × (text ≢ memory_text)

-- For both tests: a line with its end may be one of a machine's own. It is a whole line that has to be logged, and isn't turned away.
module _ {S : Type 0} (is_kept : List ℕ → Bool) (turns_away : S → List ℕ → Bool) where
  pub record IsOwnLine (s : S) (line : List ℕ) : Type 0 where
    pub body : List ℕ
    pub within : IsInLine body
    pub ended : line ≡ body ++ 10 ∷ []
    pub logged : is_logged is_kept line ≡ true
    pub taken : is_away turns_away s line ≡ false

-- ---- examples

answered_and_refused : List Turn
answered_and_refused =
    record { line = codes "ls /" ++ 10 ∷ []; text = codes "ok"; logged = true; away = false; own = false } ∷ record { line = codes "what" ++ 10 ∷ []; text = codes "refused 34 BadLine"; logged = false; away = false; own = false } ∷ []

what_is_refused_is_not_logged : entries answered_and_refused ≡ record { line = codes "ls /" ++ 10 ∷ []; answer = codes "ok" } ∷ []
unfolding answered_and_refused
what_is_refused_is_not_logged = refl

turned_away : Turn
turned_away = record { line = codes "restart 0" ++ 10 ∷ []; text = turned_away_text; logged = false; away = true; own = false }

what_is_turned_away_is_not_asked : lines_taken (turned_away ∷ answered_and_refused) ≡ (codes "ls /" ++ 10 ∷ []) ∷ (codes "what" ++ 10 ∷ []) ∷ []
unfolding turned_away answered_and_refused
what_is_turned_away_is_not_asked = refl

ticked : Turn
ticked = record { line = codes "tick" ++ 10 ∷ []; text = codes "ok"; logged = true; away = false; own = true }

an_own_line_is_logged : entries (ticked ∷ []) ≡ record { line = codes "tick" ++ 10 ∷ []; answer = codes "ok" } ∷ []
unfolding ticked
an_own_line_is_logged = refl

an_own_line_is_not_read : lines_asked (ticked ∷ answered_and_refused) ≡ lines_asked answered_and_refused
unfolding ticked
an_own_line_is_not_read = refl

its_answer_is_not_sent : texts_of (ticked ∷ answered_and_refused) ≡ codes "ok" ∷ codes "refused 34 BadLine" ∷ []
unfolding ticked answered_and_refused
its_answer_is_not_sent = refl
