-- What a run writes, for any state that answers lines.
use Rattle.std.specs.Prelude.{◌≡◌, ◌++◌, ◌∷◌, ◌⊎◌, ◌+◌, ◌==◌, ◌<◌, Bool, true, false, ℕ, List, [], length, take, nat_le, if◌then◌else◌, Option, Some, IfSome, flat_map, codes, refl}
use Rattle.std.proofs.Common.{inl, inr}
use Rattle.std.specs.Io.KnownBytes.{Appends, Keeps}
use Rattle.std.specs.Io.BufRead.{take_through, drop_through}
use Rattle.gs_base.specs.declared.refusal.Refusal.TheVariants.{Memory, BadLine}
use Rattle.gs_base.specs.Refusals.{refusal_text}
use Rattle.gs_shell_line.specs.Line.{content, longest_line, StaysInLine}
use Rattle.gs_shell_script.specs.declared.RunFault.{RunFault}
use Rattle.gs_shell_script.specs.declared.RunFault.TheVariants as fault

-- a byte before the first of some lines
abbrev pub onto : ℕ → List (List ℕ) → List (List ℕ)
onto x [] = (x ∷ []) ∷ []
onto x (line ∷ lines) = (x ∷ line) ∷ lines

-- the lines of an input, each with its end
abbrev pub lines_of : List ℕ → List (List ℕ)
lines_of [] = []
lines_of (x ∷ xs) = if x == 10 then (x ∷ []) ∷ lines_of xs else onto x (lines_of xs)

lines_of-last_without_end : lines_of (codes "ls /" ++ 13 ∷ 10 ∷ 10 ∷ codes "ls") ≡ (codes "ls /" ++ 13 ∷ 10 ∷ []) ∷ (10 ∷ []) ∷ codes "ls" ∷ []
lines_of-last_without_end = refl

abbrev pub unlines : List (List ℕ) → List ℕ
unlines texts = flat_map (λ text. text ++ 10 ∷ []) texts

-- the answer where memory is lacking
abbrev pub memory_text : List ℕ
memory_text = refusal_text Memory

-- the answer to a line that is longer than a line may be
abbrev pub bad_line_text : List ℕ
bad_line_text = refusal_text BadLine

-- no more than a beginning of some bytes is written
abbrev pub AppendsBeginning : Option (List ℕ) → Option (List ℕ) → List ℕ → Type 0
AppendsBeginning old new bytes = (count : ℕ) × Appends old new (take count bytes)

-- For a relation A that says which text may answer a line without its end in a state, and what the state is then.
module _ {S : Type 0} (A : S → List ℕ → List ℕ → S → Type 0) where
  -- A line without its end is answered where it is no longer than a line may be, which the Bool says. Else it is refused.
  abbrev pub AnswersIfShort : Bool → S → List ℕ → List ℕ → S → Type 0
  AnswersIfShort true old line text new = A old line text new
  AnswersIfShort false old line text new = (text ≡ bad_line_text) × (new ≡ old)

  -- A line with its end is answered, or memory is lacking to hold it and nothing happens.
  abbrev pub AnswersLine : S → List ℕ → List ℕ → S → Type 0
  AnswersLine old whole text new =
      ((text ≡ memory_text) × (new ≡ old))
      ⊎ AnswersIfShort (nat_le (length (content whole)) longest_line) old (content whole) text new

  -- the next line is answered, or there is none
  abbrev pub Turns : List ℕ → Option (List ℕ) → Option (List ℕ) → Option (List ℕ) → S → S → Bool → Type 0
  Turns xs left out out' old new true =
      (0 < length xs) × (left ≡ Some (drop_through 10 xs)) × (text : List ℕ) × AnswersLine old (take_through 10 xs) text new × Appends out out' (text ++ 10 ∷ [])
  Turns xs left out out' old new false = (xs ≡ []) × Keeps out out' × (new ≡ old)

  -- the next line is read, and of its answer a beginning is written
  abbrev pub BreaksOff : List ℕ → Option (List ℕ) → Option (List ℕ) → Option (List ℕ) → S → S → Type 0
  BreaksOff xs left out out' old new =
      (0 < length xs) × (left ≡ Some (drop_through 10 xs)) × (text : List ℕ) × AnswersLine old (take_through 10 xs) text new × AppendsBeginning out out' (text ++ 10 ∷ [])

  -- a read that fails loses bytes of the next line at most
  abbrev pub TurnFails : RunFault → Option (List ℕ) → Option (List ℕ) → Option (List ℕ) → Option (List ℕ) → S → S → Type 0
  TurnFails fault.Read before left out out' old new = StaysInLine before left × Keeps out out' × (new ≡ old)
  TurnFails fault.Write before left out out' old new = IfSome before (λ xs. BreaksOff xs left out out' old new)
  TurnFails (fault.Refused e) before left out out' old new = ⊥

  -- the lines may be answered so, one after another
  abbrev pub Runs : S → List (List ℕ) → List (List ℕ) → S → Type 0
  Runs old [] [] new = new ≡ old
  Runs old (line ∷ lines) (text ∷ texts) new = (mid : S) × AnswersLine old line text mid × Runs mid lines texts new
  Runs old [] (text ∷ texts) new = ⊥
  Runs old (line ∷ lines) [] new = ⊥

  -- what is written for some lines, from a state to another
  pub record WritesAnswers (start : S) (lines : List (List ℕ)) (old new : Option (List ℕ)) (end : S) : Type 0 where
    pub texts : List (List ℕ)
    pub runs : Runs start lines texts end
    pub whole : Appends old new (unlines texts)

  -- what is written for a whole input
  abbrev pub Writes : S → List ℕ → Option (List ℕ) → Option (List ℕ) → S → Type 0
  Writes start input old new end = WritesAnswers start (lines_of input) old new end

  -- A read fails behind some lines of the input, and each of these is answered. Of the rest the reader may have lost bytes of
  -- the first line alone.
  pub record StopsReading (start : S) (input : List ℕ) (left old new : Option (List ℕ)) (end : S) : Type 0 where
    pub lines : List (List ℕ)
    pub rest : List ℕ
    pub parts : lines_of input ≡ lines ++ lines_of rest
    pub left_in_rest : StaysInLine (Some rest) left
    pub written : WritesAnswers start lines old new end

  -- A write fails behind some lines of the input, each of which is answered, and one more line, of whose answer a beginning
  -- is written.
  pub record StopsWriting (start : S) (input : List ℕ) (left old new : Option (List ℕ)) (end : S) : Type 0 where
    pub lines : List (List ℕ)
    pub line : List ℕ
    pub rest : List ℕ
    pub parts : lines_of input ≡ lines ++ line ∷ lines_of rest
    pub left_is : left ≡ Some rest
    pub between : Option (List ℕ)
    pub before : S
    pub written : WritesAnswers start lines old between before
    pub text : List ℕ
    pub answers : AnswersLine before line text end
    pub begun : AppendsBeginning between new (text ++ 10 ∷ [])

  -- what is written where a run fails
  abbrev pub RunFails : RunFault → S → Option (List ℕ) → Option (List ℕ) → Option (List ℕ) → Option (List ℕ) → S → Type 0
  RunFails fault.Read start before left out out' end = IfSome before (λ input. StopsReading start input left out out' end)
  RunFails fault.Write start before left out out' end = IfSome before (λ input. StopsWriting start input left out out' end)
  RunFails (fault.Refused e) start before left out out' end = ⊥

  -- so far: what is written answers the lines before the rest
  abbrev pub Wrote : S → List ℕ → Option (List ℕ) → Option (List ℕ) → Option (List ℕ) → S → Type 0
  Wrote start input left old new now = (texts : List (List ℕ)) × (lines : List (List ℕ)) × (rest : List ℕ) × (left ≡ Some rest) × Appends old new (unlines texts)
      × (lines_of input ≡ lines ++ lines_of rest) × Runs start lines texts now

-- what counts the lines, and answers each by itself
abbrev pub Echoes : ℕ → List ℕ → List ℕ → ℕ → Type 0
Echoes old line text new = (text ≡ line) × (new ≡ old + 1)

two_lines_are_echoed : Runs Echoes 0 (lines_of (codes "mv /a /b" ++ 13 ∷ 10 ∷ codes "ls")) (codes "mv /a /b" ∷ codes "ls" ∷ []) 2
two_lines_are_echoed = (1, inr (refl, refl), (2, inr (refl, refl), refl))

memory_is_lacking_for_a_line : Runs Echoes 0 (lines_of (codes "ls" ++ 10 ∷ codes "ls" ++ 10 ∷ [])) (memory_text ∷ codes "ls" ∷ []) 1
memory_is_lacking_for_a_line = (0, inl (refl, refl), (1, inr (refl, refl), refl))
