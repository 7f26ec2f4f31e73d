-- What a script is answered from its first line on, while its lines look, are about nodes or about no path, or change the tree, and of these changes each answer tells what came of it.
use Rattle.std.proofs.Common.{inl, inr}
use Rattle.std.specs.Prelude.{[], ◌++◌, ◌∷◌, ◌≡◌, List, Option, Some, codes, refl, take, ℕ}
use Rattle.std.specs.Char.{encode_utf8}
use Rattle.std.specs.Fmt.{digits}
use Rattle.std.specs.Str.{chars, is_utf8}
use Rattle.gs_base.specs.declared.config.Config.{Config}
use Rattle.gs_journal.specs.Records.{fresh, standing}
use Rattle.gs_shell.specs.Serving.{Serves, StopsServing}
use Rattle.gs_shell_desk.specs.Starting.{Starts}
use Rattle.gs_shell_desk.specs.declared.desk.Desk.{Desk}
use Rattle.gs_shell_grammar.specs.Grammar.{lose_line, number_line, one_word, three_words, two_words}
use Rattle.gs_shell_script.specs.Run.{lines_of}
use Rattle.gs_shell_script.specs.declared.RunFault.TheVariants as fault
use Rattle.gs_laws_scripts.specs.explained.Changes.{AreCalmLines, a_refusal_is_sure, an_answer_is_sure}
use Rattle.gs_laws_scripts.specs.explained.Lines.{AreExplained}
use Rattle.gs_laws_scripts.specs.explained.Machine.{new_machine}
use Rattle.gs_laws_scripts.specs.explained.Standing.{Stands}

-- A desk that has begun over empty disks stands for the new machine.
abbrev pub NewDesksStand : Type 0 → Type 0
NewDesksStand D = (seen : D → List ℕ) (failures : D → ℕ) (config : Config) (disks : D × D) (new : Desk D) → standing (seen disks.0) (seen disks.1) ≡ fresh → Starts seen failures config disks new → Stands seen config new new_machine

-- So many lines at the beginning of a script are explained with their answers, if they are such lines. What the lines after them are, and are answered, is nothing to it.
abbrev pub CalmBeginnings : (size block : ℕ) → List (List ℕ) → List (List ℕ) → Type 0
CalmBeginnings size block all texts = (many : ℕ) → AreCalmLines (take many all) (take many texts) → AreExplained size block (take many all) (take many texts)

-- So it is of each script over empty disks, whatever disks fail.
abbrev pub CalmFromTheBeginning : Type 0 → Type 0
CalmFromTheBeginning D = (seen : D → List ℕ) (failures : D → ℕ) (config : Config) (disks : D × D) (input : List ℕ) (old new : Option (List ℕ)) (s : Serves seen failures config disks input old new) → standing (seen disks.0) (seen disks.1) ≡ fresh
    → CalmBeginnings config.chunk config.block (lines_of input) s.writes.texts

-- So it is where a read of the script fails, in those of its lines that were read and answered before.
abbrev pub BeginningsUntilAReadFails : Type 0 → Type 0
BeginningsUntilAReadFails D = (seen : D → List ℕ) (failures : D → ℕ) (config : Config) (disks : D × D) (input : List ℕ) (left old new : Option (List ℕ)) (s : StopsServing seen failures config disks fault.Read (Some input) left old new)
    → standing (seen disks.0) (seen disks.1) ≡ fresh → CalmBeginnings config.chunk config.block s.fails.lines s.fails.written.texts

-- And where a write of an answer fails, in the lines whose answers were written before, and in these with the line of that answer.
abbrev pub BeginningsUntilAWriteFails : Type 0 → Type 0
BeginningsUntilAWriteFails D = (seen : D → List ℕ) (failures : D → ℕ) (config : Config) (disks : D × D) (input : List ℕ) (left old new : Option (List ℕ)) (s : StopsServing seen failures config disks fault.Write (Some input) left old new)
    → standing (seen disks.0) (seen disks.1) ≡ fresh
    → CalmBeginnings config.chunk config.block s.fails.lines s.fails.written.texts × CalmBeginnings config.chunk config.block (s.fails.lines ++ s.fails.line ∷ []) (s.fails.written.texts ++ s.fails.text ∷ [])

-- ---- Worked: a directory is made, made again, and moved; a replica is lost of a chunk that there is none of, and a list comes. What comes after them is nothing to it.
abbrev some_lines : List (List ℕ)
some_lines = codes "mkdir /d" ∷ codes "mkdir /d" ∷ codes "mv /d /e" ∷ codes "lose 1 2" ∷ codes "ls /" ∷ codes "append /f 00" ∷ []

abbrev some_texts : List ℕ → List (List ℕ)
some_texts said = codes "ok" ∷ codes "refused 4 Exists" ∷ codes "ok" ∷ codes "refused 28 NoReplica" ∷ codes "ok e/" ∷ said ∷ []

five_are_such : (said : List ℕ) → AreCalmLines (take 5 some_lines) (take 5 (some_texts said))
unfolding one_word two_words three_words number_line lose_line is_utf8 chars encode_utf8 digits
five_are_such said = (inr (inl (refl, an_answer_is_sure)), (inr (inl (refl, a_refusal_is_sure)), (inr (inl (refl, an_answer_is_sure)), (inl (refl, λ stat. absurd (cc)), (inl (refl, λ stat. absurd (cc)), tt)))))
