-- Scripts of lines of the tree and of an upgrade are explained.
use Rattle.std.specs.Prelude.{[], ◌++◌, ◌∷◌, ◌≡◌, List, Option, Some, codes, refl, take, true, ℕ}
use Rattle.std.specs.Char.{encode_utf8}
use Rattle.std.specs.List.{AllByRecursion}
use Rattle.std.specs.Str.{chars, is_utf8}
use Rattle.gs_base.specs.declared.config.Config.{Config}
use Rattle.gs_shell.specs.Serving.{Serves, StopsServing}
use Rattle.gs_shell_grammar.specs.Grammar.{one_word, three_words, two_words, upgrade_line}
use Rattle.gs_shell_script.specs.Run.{lines_of}
use Rattle.gs_shell_script.specs.declared.RunFault.TheVariants as fault
use Rattle.gs_laws_scripts.specs.answers.Meeting.{WentWell}
use Rattle.gs_laws_scripts.specs.explained.Lines.{AreExplained}
use Rattle.gs_laws_scripts.specs.plain.Machines.{is_plain_line}
use Rattle.gs_laws_scripts.specs.plain.Scripts.{HasRoom}

-- So many lines at the beginning of a script are explained with their answers, if they are all of the tree and of an upgrade, set the moment or ask for nothing, and each answer has room.
-- What the lines after them are, and are answered, is nothing to it.
abbrev pub BeginningsAreExplained : (size block : ℕ) → List (List ℕ) → List (List ℕ) → Type 0
BeginningsAreExplained size block all texts =
    (many : ℕ) → AllByRecursion (λ whole. is_plain_line whole ≡ true) (take many all) → AllByRecursion HasRoom (take many texts) → AreExplained size block (take many all) (take many texts)

-- So it is of a script over empty disks, where memory isn't wanting and no disk fails.
abbrev pub ScriptsOfTheTreeAreExplained : {D : Type 0} → (D → List ℕ) → (D → ℕ) → Config → D × D → Type 0
ScriptsOfTheTreeAreExplained seen failures config disks = (input : List ℕ) (old new : Option (List ℕ)) (s : Serves seen failures config disks input old new) → WentWell seen failures disks s.writes.texts s.ended
    → BeginningsAreExplained config.chunk config.block (lines_of input) s.writes.texts

-- And so it is where a read of the script fails, of those of its lines that were read before.
abbrev pub AreExplainedUntilAReadFails : {D : Type 0} → (D → List ℕ) → (D → ℕ) → Config → D × D → Type 0
AreExplainedUntilAReadFails seen failures config disks = (input : List ℕ) (left old new : Option (List ℕ)) (s : StopsServing seen failures config disks fault.Read (Some input) left old new) → WentWell seen failures disks s.fails.written.texts s.ended
    → BeginningsAreExplained config.chunk config.block s.fails.lines s.fails.written.texts

-- Where a write of an answer fails, so it is of the lines whose answers were written before, and of these with the line of that answer.
abbrev pub AreExplainedUntilAWriteFails : {D : Type 0} → (D → List ℕ) → (D → ℕ) → Config → D × D → Type 0
AreExplainedUntilAWriteFails seen failures config disks = (input : List ℕ) (left old new : Option (List ℕ)) (s : StopsServing seen failures config disks fault.Write (Some input) left old new)
    → (WentWell seen failures disks s.fails.written.texts s.fails.before → BeginningsAreExplained config.chunk config.block s.fails.lines s.fails.written.texts)
    × (WentWell seen failures disks (s.fails.written.texts ++ s.fails.text ∷ []) s.ended → BeginningsAreExplained config.chunk config.block (s.fails.lines ++ s.fails.line ∷ []) (s.fails.written.texts ++ s.fails.text ∷ []))

-- ---- Worked: all lines of this script are such
abbrev pub an_upgrade_of_names : List (List ℕ)
an_upgrade_of_names = codes "mkdir /a/b" ∷ codes "create /a/f" ∷ codes "rollingUpgrade prepare" ∷ codes "mv /a /c" ∷ codes "rm -r /c" ∷ codes "frob" ∷ codes "rollingUpgrade rollback" ∷ codes "ls /a" ∷ []

they_are_of_the_tree : AllByRecursion (λ whole. is_plain_line whole ≡ true) an_upgrade_of_names
unfolding one_word two_words three_words upgrade_line is_utf8 chars encode_utf8
they_are_of_the_tree = (refl, (refl, (refl, (refl, (refl, (refl, (refl, (refl, tt))))))))
