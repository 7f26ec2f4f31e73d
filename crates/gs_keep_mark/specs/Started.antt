-- What a start runs of a log that a crash has left.
use Rattle.std.specs.Prelude.{◌≡◌, ◌++◌, ◌∷◌, ◌⊎◌, ◌==◌, ℕ, Bool, true, false, List, [], map, flat_map, Option, Some, None, codes, refl}
use Rattle.std.specs.List.{AllByRecursion}
use Rattle.gs_shell_script.specs.Run.{lines_of}
use Rattle.gs_keep_mark.specs.Marks.{Entry, Totals, digest, is_whole_mark, mark_of, marked, starts_mark, told_by}

-- ---- lines

-- no byte is a line's end
abbrev pub IsInLine : List ℕ → Type 0
IsInLine [] = Unit {0}
IsInLine (x ∷ xs) = ((x == 10) ≡ false) × IsInLine xs

-- a whole line that is no mark
pub record IsPlain (line : List ℕ) : Type 0 where
  pub body : List ℕ
  pub within : IsInLine body
  pub ended : line ≡ body ++ 10 ∷ []
  pub plain : starts_mark line ≡ false

-- each line of a batch is one
abbrev pub IsBatch : List Entry → Type 0
IsBatch batch = AllByRecursion (λ e. IsPlain e.line) batch

abbrev pub AreBatches : List (List Entry) → Type 0
AreBatches batches = AllByRecursion IsBatch batches

-- no line is a mark with its end
abbrev pub NoMark : List ℕ → Type 0
NoMark rest = AllByRecursion (λ line. is_whole_mark line ≡ false) (lines_of rest)

a_torn_mark_is_none : NoMark (codes "ls /" ++ 10 ∷ codes "# 0000")
a_torn_mark_is_none = (refl, (refl, tt))

-- ---- digests

-- different texts among some have different digests
abbrev pub TellsApart : (List ℕ → Bool) → Type 0
TellsApart among = (xs ys : List ℕ) → among xs ≡ true → among ys ≡ true → digest xs ≡ digest ys → xs ≡ ys

-- what the marks of some batches tell of is among them
abbrev pub AreAmong : (List ℕ → Bool) → Totals → List (List Entry) → Type 0
AreAmong among t batches = AllByRecursion (λ u. (among u.text ≡ true) × (among u.answers ≡ true)) (told_by t batches)

-- ---- marks

-- a mark is one of some
abbrev pub IsOneOf : List ℕ → List Totals → Type 0
IsOneOf mark [] = ⊥
IsOneOf mark (u ∷ more) = (mark ≡ mark_of u) ⊎ IsOneOf mark more

-- each mark of some batches is one of those of others
abbrev pub HaveMarksOf : Totals → List (List Entry) → List (List Entry) → Type 0
HaveMarksOf t batches written = AllByRecursion (λ u. IsOneOf (mark_of u) (told_by t written)) (told_by t batches)

-- ---- batches

-- all answers to a batch, each with its end
abbrev pub answers_of : List Entry → List ℕ
answers_of batch = flat_map (λ e. e.answer ++ 10 ∷ []) batch

-- two batches have the same lines and were given the same answers
pub record Alike (one other : List Entry) : Type 0 where
  pub lines : map (λ e. e.line) one ≡ map (λ e. e.line) other
  pub answers : answers_of one ≡ answers_of other

abbrev pub AllAlike : List (List Entry) → List (List Entry) → Type 0
AllAlike [] [] = Unit {0}
AllAlike (one ∷ more) (other ∷ others) = Alike one other × AllAlike more others
AllAlike [] (other ∷ others) = ⊥
AllAlike (one ∷ more) [] = ⊥

-- the batch that waits, if one does
abbrev pub one_or_none : Option (List Entry) → List (List Entry)
one_or_none None = []
one_or_none (Some batch) = batch ∷ []

-- ---- what a start runs

-- A crash left the answered batches, each for good, and any bytes behind them. Those that a start runs are the batches of the log up to its last mark.
-- Where digests tell texts apart, and no mark stands there that wasn't written, they are all that were answered, with their answers, and at
-- most the one that waited, if it was written whole.
abbrev pub StartRunsWhatWasAnswered : Type 0
StartRunsWhatWasAnswered =
    (among : List ℕ → Bool) (t : Totals) (answered ran : List (List Entry)) (waiting : Option (List Entry)) (left rest : List ℕ)
    → TellsApart among → AreBatches answered → AreBatches (one_or_none waiting) → AreBatches ran
    → AreAmong among t (answered ++ one_or_none waiting) → AreAmong among t ran
    → HaveMarksOf t ran (answered ++ one_or_none waiting)
    → marked t answered ++ left ≡ marked t ran ++ rest → NoMark rest
    → AllAlike ran answered ⊎ AllAlike ran (answered ++ one_or_none waiting)
