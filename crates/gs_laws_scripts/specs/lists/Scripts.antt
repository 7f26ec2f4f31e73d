-- What a script is answered to `ls` right behind a prepare, and right behind its rollback.
use Rattle.std.specs.Prelude.{◌+◌, ◌++◌, ◌∷◌, ◌≡◌, ◌≢◌, List, Option, Some, codes, decimal, length, take, true, ℕ, [], get_or, refl}
use Rattle.std.proofs.Common.{ap, arith}
use Rattle.std.proofs.lemmas.List.Elements.{All-cons, All-nil}
use Rattle.std.specs.Char.{encode_utf8}
use Rattle.std.specs.Fmt.{digits}
use Rattle.std.specs.Str.{chars, is_utf8}
use Rattle.gs_base.specs.Told.{IsNumber}
use Rattle.gs_base.specs.declared.config.Config.{Config}
use Rattle.gs_journal.specs.Records.{fresh, standing}
use Rattle.gs_shell.specs.Serving.{Serves, StopsServing}
use Rattle.gs_shell_grammar.specs.Grammar.{Request, line_request, two_words, upgrade_line}
use Rattle.gs_shell_grammar.specs.Grammar as lines
use Rattle.gs_shell_grammar.specs.declared.command.Upgrade.TheVariants as upgrades
use Rattle.gs_shell_line.specs.Line.{content}
use Rattle.gs_shell_script.specs.Run.{StopsReading, WritesAnswers, lines_of}
use Rattle.gs_shell_script.specs.declared.RunFault.TheVariants as fault
use Rattle.gs_laws_scripts.specs.lists.Lines.{commits_prepare, commits_rollback}

-- an answer that isn't a refusal
abbrev pub IsAccepted : List ℕ → Type 0
IsAccepted text = take 2 text ≡ codes "ok"

-- what a line asks for
abbrev pub AsksFor : Request → List ℕ → Type 0
AsksFor request line = line_request (content line) ≡ Some request

-- Of the lines of a script, and of their answers: `rollingUpgrade prepare`, or `prepare-commit`, is answered by an epoch, and `ls` of a path right behind it by a list. Behind any lines `rollingUpgrade rollback`, or `rollback-commit`, is answered by the next epoch, and the same `ls` right
-- behind it by a list.
pub record AreListedTwice (all texts : List (List ℕ)) (path : List ℕ) (epoch : ℕ) (had has : List ℕ) : Type 0 where
  pub before : List (List ℕ)
  pub prepare : List ℕ
  pub list : List ℕ
  pub between : List (List ℕ)
  pub rollback : List ℕ
  pub again : List ℕ
  pub behind : List (List ℕ)
  pub lines_are : all ≡ before ++ prepare ∷ list ∷ (between ++ rollback ∷ again ∷ behind)
  pub texts_before : List (List ℕ)
  pub texts_between : List (List ℕ)
  pub texts_behind : List (List ℕ)
  pub texts_are : texts ≡ texts_before ++ (codes "ok " ++ decimal epoch) ∷ had ∷ (texts_between ++ (codes "ok " ++ decimal (epoch + 1)) ∷ has ∷ texts_behind)
  pub small : IsNumber (epoch + 1)
  pub long_before : length texts_before ≡ length before
  pub long_between : length texts_between ≡ length between
  pub prepare_by : Request
  pub is_prepare : commits_prepare prepare_by ≡ true
  pub prepares : AsksFor prepare_by prepare
  pub lists : AsksFor (lines.Ls path) list
  pub roll_by : Request
  pub is_rollback : commits_rollback roll_by ≡ true
  pub rolls : AsksFor roll_by rollback
  pub repeats : AsksFor (lines.Ls path) again
  pub was : IsAccepted had
  pub is : IsAccepted has

-- ---- what is to hold

-- Then both lists are the same.
abbrev pub ListTheSame : List (List ℕ) → List (List ℕ) → Type 0
ListTheSame all texts = (path : List ℕ) (epoch : ℕ) (had has : List ℕ) → AreListedTwice all texts path epoch had has → has ≡ had

-- So it is of each script: whatever lines come before, between and behind, lines that damage blocks among them, and whatever disks fail.
abbrev pub ScriptsListTheSame : Type 0 → Type 0
ScriptsListTheSame D = (seen : D → List ℕ) (failures : D → ℕ) (config : Config) (disks : D × D) (input : List ℕ) (old new : Option (List ℕ)) (s : Serves seen failures config disks input old new) → standing (seen disks.0) (seen disks.1) ≡ fresh
    → ListTheSame (lines_of input) s.writes.texts

-- So it is where a read of the script fails, in those of its lines that were read and answered before.
abbrev pub ListTheSameUntilAReadFails : Type 0 → Type 0
ListTheSameUntilAReadFails D = (seen : D → List ℕ) (failures : D → ℕ) (config : Config) (disks : D × D) (input : List ℕ) (left old new : Option (List ℕ)) (s : StopsServing seen failures config disks fault.Read (Some input) left old new)
    → standing (seen disks.0) (seen disks.1) ≡ fresh → ListTheSame s.fails.lines s.fails.written.texts

-- And where a write of an answer fails, in the lines whose answers were written before, and in these with the line of that answer, which is made though no more than a beginning of it is written.
abbrev pub ListTheSameUntilAWriteFails : Type 0 → Type 0
ListTheSameUntilAWriteFails D = (seen : D → List ℕ) (failures : D → ℕ) (config : Config) (disks : D × D) (input : List ℕ) (left old new : Option (List ℕ)) (s : StopsServing seen failures config disks fault.Write (Some input) left old new)
    → standing (seen disks.0) (seen disks.1) ≡ fresh → ListTheSame s.fails.lines s.fails.written.texts × ListTheSame (s.fails.lines ++ s.fails.line ∷ []) (s.fails.written.texts ++ s.fails.text ∷ [])

-- ---- examples: a script of four lines that is answered so

abbrev some_lines : List (List ℕ)
some_lines = (codes "rollingUpgrade prepare" ++ 10 ∷ []) ∷ (codes "ls /" ++ 10 ∷ []) ∷ (codes "rollingUpgrade rollback" ++ 10 ∷ []) ∷ (codes "ls /" ++ 10 ∷ []) ∷ []

abbrev some_texts : List ℕ → List ℕ → List (List ℕ)
some_texts had has = codes "ok 1" ∷ had ∷ codes "ok 2" ∷ has ∷ []

they_are_lines : lines_of (codes "rollingUpgrade prepare" ++ 10 ∷ codes "ls /" ++ 10 ∷ codes "rollingUpgrade rollback" ++ 10 ∷ codes "ls /" ++ 10 ∷ []) ≡ some_lines
they_are_lines = refl

-- so it is asked that both lists are the same
it_is_such_a_script : (had has : List ℕ) → IsAccepted had → IsAccepted has → AreListedTwice some_lines (some_texts had has) (codes "/") 1 had has
unfolding two_words upgrade_line is_utf8 chars encode_utf8 digits
it_is_such_a_script had has was is = record {
  before = [];
  prepare = codes "rollingUpgrade prepare" ++ 10 ∷ [];
  list = codes "ls /" ++ 10 ∷ [];
  between = [];
  rollback = codes "rollingUpgrade rollback" ++ 10 ∷ [];
  again = codes "ls /" ++ 10 ∷ [];
  behind = [];
  lines_are = refl;
  texts_before = [];
  texts_between = [];
  texts_behind = [];
  texts_are = refl;
  small = omega arith;
  long_before = refl;
  long_between = refl;
  prepare_by = lines.RollingUpgrade upgrades.Prepare;
  is_prepare = refl;
  prepares = refl;
  lists = refl;
  roll_by = lines.RollingUpgrade upgrades.Rollback;
  is_rollback = refl;
  rolls = refl;
  repeats = refl;
  was = was;
  is = is;
}

-- a read may fail in a fifth line behind it, and lose a byte of that: then these four were answered
a_read_fails_behind_it : {S : Type 0} (A : S → List ℕ → List ℕ → S → Type 0) (begun ended : S) (old new : Option (List ℕ)) → WritesAnswers A begun some_lines old new ended
    → StopsReading A begun (codes "rollingUpgrade prepare" ++ 10 ∷ codes "ls /" ++ 10 ∷ codes "rollingUpgrade rollback" ++ 10 ∷ codes "ls /" ++ 10 ∷ codes "ls /d") (Some (codes "s /d")) old new ended
a_read_fails_behind_it A begun ended old new written = record { lines = some_lines; rest = codes "ls /d"; parts = refl; left_in_rest = (codes "l", refl, All-cons (λ (x : ℕ). x ≢ 10) 108 [] other (All-nil (λ (x : ℕ). x ≢ 10))); written = written }
  where
    other : ◌≢◌ {A = ℕ} 108 10
    other is = omega arith

a_list_that_is_refused_is_no_answer : IsAccepted (codes "refused 1 BadPath") → ⊥
a_list_that_is_refused_is_no_answer is = apart (ap (λ (t : List ℕ). get_or t 0 0) is)
  where
    apart : ◌≡◌ {A = ℕ} 114 111 → ⊥
    apart is = omega arith
