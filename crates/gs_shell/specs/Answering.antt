-- What a run reads and writes, by its bytes alone.
use Rattle.std.specs.Prelude.{◌++◌, ◌∷◌, ◌≡◌, ◌≢◌, Err, IfSome, List, Ok, Option, Result, Some, [], false, length, take, ℕ}
use Rattle.std.specs.Io.KnownBytes.{Appends}
use Rattle.std.specs.List.{AllByRecursion}
use Rattle.gs_shell.specs.declared.trouble.Trouble.{Trouble}
use Rattle.gs_shell_line.specs.Line.{StaysInLine}
use Rattle.gs_shell_script.specs.Run.{lines_of, memory_text, unlines}
use Rattle.gs_shell_script.specs.declared.RunFault.{RunFault}
use Rattle.gs_shell_script.specs.declared.RunFault.TheVariants as fault

-- Nothing went wrong within the store, and no answer is that there was no memory left.
pub record IsUntroubled (trouble : Trouble) (texts : List (List ℕ)) : Type 0 where
  pub enough : trouble.was_short ≡ false
  pub sound : trouble.has_disk_failed ≡ false
  pub answered : AllByRecursion (λ text. text ≢ memory_text) texts

-- For what is to hold of lines, each with its end, and of the texts that answer them, each without. If as many line ends are written as lines are answered, the texts
-- are what stands between these.
module _ (P : List (List ℕ) → List (List ℕ) → Type 0) where
  -- All lines of the input are answered, each by one text, and this holds of them.
  pub record AnswersAll (input : List ℕ) (old new : Option (List ℕ)) : Type 0 where
    pub texts : List (List ℕ)
    pub each : length texts ≡ length (lines_of input)
    pub written : Appends old new (unlines texts)
    pub holds : P (lines_of input) texts

  -- A read fails. So it is of the lines before; of the rest the reader may have lost bytes of the first line alone.
  pub record AnswersBeforeARead (input : List ℕ) (left old new : Option (List ℕ)) : Type 0 where
    pub lines : List (List ℕ)
    pub rest : List ℕ
    pub parts : lines_of input ≡ lines ++ lines_of rest
    pub left_in_rest : StaysInLine (Some rest) left
    pub texts : List (List ℕ)
    pub each : length texts ≡ length lines
    pub written : Appends old new (unlines texts)
    pub holds : P lines texts

  -- A write fails. So it is of the lines that were read; of the text that answers the last of them a beginning is written.
  pub record AnswersBeforeAWrite (input : List ℕ) (left old new : Option (List ℕ)) : Type 0 where
    pub lines : List (List ℕ)
    pub rest : List ℕ
    pub parts : lines_of input ≡ lines ++ lines_of rest
    pub left_is : left ≡ Some rest
    pub texts : List (List ℕ)
    pub last : List ℕ
    pub each : length (texts ++ last ∷ []) ≡ length lines
    pub count : ℕ
    pub written : Appends old new (unlines texts ++ take count (last ++ 10 ∷ []))
    pub holds : P lines (texts ++ last ∷ [])

  -- However the run ends. Where no store begins, nothing is read or written.
  abbrev pub Answers : Result (Unit {0}) RunFault → Option (List ℕ) → Option (List ℕ) → Option (List ℕ) → Option (List ℕ) → Type 0
  Answers (Ok done) before left old new = IfSome before (λ input. AnswersAll input old new)
  Answers (Err fault.Read) before left old new = IfSome before (λ input. AnswersBeforeARead input left old new)
  Answers (Err fault.Write) before left old new = IfSome before (λ input. AnswersBeforeAWrite input left old new)
  Answers (Err (fault.Refused refusal)) before left old new = (left ≡ before) × (new ≡ old)
