-- What a script is answered right after a prepare or a rollback that is accepted, while its lines look, are about nodes or about no path, or change the tree, and of these changes each answer tells what came of it.
use Rattle.std.proofs.Common.{inl, inr}
use Rattle.std.specs.Prelude.{[], ◌++◌, ◌∷◌, ◌≡◌, ◌⊎◌, List, Option, Some, codes, decimal, length, refl, true, ℕ}
use Rattle.std.specs.Char.{encode_utf8}
use Rattle.std.specs.Fmt.{digits}
use Rattle.std.specs.Str.{chars, is_utf8}
use Rattle.gs_base.specs.declared.config.Config.{Config}
use Rattle.gs_journal.specs.Records.{fresh, standing}
use Rattle.gs_shell.specs.Serving.{Serves, StopsServing}
use Rattle.gs_shell_grammar.specs.Grammar.{Request, lose_line, number_line, one_word, three_words, two_words, upgrade_line}
use Rattle.gs_shell_grammar.specs.Grammar as lines
use Rattle.gs_shell_grammar.specs.declared.command.Upgrade.TheVariants as upgrades
use Rattle.gs_shell_script.specs.Run.{lines_of}
use Rattle.gs_shell_script.specs.declared.RunFault.TheVariants as fault
use Rattle.gs_laws_scripts.specs.explained.Changes.{AreCalmLines, a_refusal_is_sure, an_answer_is_sure}
use Rattle.gs_laws_scripts.specs.explained.Commits.{AreExplainedFrom}
use Rattle.gs_laws_scripts.specs.explained.Standing.{phase_after}
use Rattle.gs_laws_scripts.specs.lists.Lines.{commits_prepare, commits_rollback}
use Rattle.gs_laws_scripts.specs.lists.Scripts.{AsksFor}

-- Of the lines of a script, and of their answers: after any lines a prepare, or a rollback, is answered by an epoch. Right after it come such lines.
pub record HasCalmLines (all texts : List (List ℕ)) : Type 0 where
  pub before : List (List ℕ)
  pub commit : List ℕ
  pub calm : List (List ℕ)
  pub later : List (List ℕ)
  pub lines_are : all ≡ before ++ commit ∷ (calm ++ later)
  pub texts_before : List (List ℕ)
  pub epoch : ℕ
  pub texts_calm : List (List ℕ)
  pub texts_later : List (List ℕ)
  pub texts_are : texts ≡ texts_before ++ (codes "ok " ++ decimal epoch) ∷ (texts_calm ++ texts_later)
  pub long_before : length texts_before ≡ length before
  pub long_calm : length texts_calm ≡ length calm
  pub by : Request
  pub commits : (commits_prepare by ≡ true) ⊎ (commits_rollback by ≡ true)
  pub asks : AsksFor by commit
  pub are : AreCalmLines calm texts_calm

-- ---- what is to hold

-- such lines are explained, each with its answer, from some machine on in an epoch that is told so, and in this phase
abbrev pub CalmLinesAfter : (size block : ℕ) → List (List ℕ) → List (List ℕ) → Type 0
CalmLinesAfter size block all texts = (q : HasCalmLines all texts) → AreExplainedFrom size block q.epoch (phase_after q.commits) q.calm q.texts_calm

-- So it is of each script over empty disks: whatever lines come before and later, whatever is held back, and whatever disks fail.
abbrev pub CalmAfterACommit : Type 0 → Type 0
CalmAfterACommit D = (seen : D → List ℕ) (failures : D → ℕ) (config : Config) (disks : D × D) (input : List ℕ) (old new : Option (List ℕ)) (s : Serves seen failures config disks input old new) → standing (seen disks.0) (seen disks.1) ≡ fresh
    → CalmLinesAfter config.chunk config.block (lines_of input) s.writes.texts

-- So it is where a read of the script fails, in those of its lines that were read and answered before.
abbrev pub CalmUntilAReadFails : Type 0 → Type 0
CalmUntilAReadFails D = (seen : D → List ℕ) (failures : D → ℕ) (config : Config) (disks : D × D) (input : List ℕ) (left old new : Option (List ℕ)) (s : StopsServing seen failures config disks fault.Read (Some input) left old new)
    → standing (seen disks.0) (seen disks.1) ≡ fresh → CalmLinesAfter config.chunk config.block s.fails.lines s.fails.written.texts

-- And where a write of an answer fails, in the lines whose answers were written before, and in these with the line of that answer.
abbrev pub CalmUntilAWriteFails : Type 0 → Type 0
CalmUntilAWriteFails D = (seen : D → List ℕ) (failures : D → ℕ) (config : Config) (disks : D × D) (input : List ℕ) (left old new : Option (List ℕ)) (s : StopsServing seen failures config disks fault.Write (Some input) left old new)
    → standing (seen disks.0) (seen disks.1) ≡ fresh
    → CalmLinesAfter config.chunk config.block s.fails.lines s.fails.written.texts × CalmLinesAfter config.chunk config.block (s.fails.lines ++ s.fails.line ∷ []) (s.fails.written.texts ++ s.fails.text ∷ [])

-- ---- Worked: after a prepare a directory is made, made again, and moved
abbrev some_lines : List (List ℕ)
some_lines = codes "append /f 00" ∷ codes "rollingUpgrade prepare" ∷ codes "mkdir /d" ∷ codes "mkdir /d" ∷ codes "mv /d /e" ∷ codes "ls /" ∷ codes "rm /f" ∷ []

abbrev some_texts : List ℕ → List ℕ → List (List ℕ)
some_texts had said = had ∷ codes "ok 1" ∷ codes "ok" ∷ codes "refused 4 Exists" ∷ codes "ok" ∷ codes "ok e/ f" ∷ said ∷ []

it_is_such_a_script : (had said : List ℕ) → HasCalmLines some_lines (some_texts had said)
unfolding one_word two_words three_words upgrade_line number_line lose_line is_utf8 chars encode_utf8 digits
it_is_such_a_script had said = record {
  before = codes "append /f 00" ∷ [];
  commit = codes "rollingUpgrade prepare";
  calm = codes "mkdir /d" ∷ codes "mkdir /d" ∷ codes "mv /d /e" ∷ codes "ls /" ∷ [];
  later = codes "rm /f" ∷ [];
  lines_are = refl;
  texts_before = had ∷ [];
  epoch = 1;
  texts_calm = codes "ok" ∷ codes "refused 4 Exists" ∷ codes "ok" ∷ codes "ok e/ f" ∷ [];
  texts_later = said ∷ [];
  texts_are = refl;
  long_before = refl;
  long_calm = refl;
  by = lines.RollingUpgrade upgrades.Prepare;
  commits = inl refl;
  asks = refl;
  are = (inr (inl (refl, an_answer_is_sure)), (inr (inl (refl, a_refusal_is_sure)), (inr (inl (refl, an_answer_is_sure)), (inl (refl, λ stat. absurd (cc)), tt))));
}
