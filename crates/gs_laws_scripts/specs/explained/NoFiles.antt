-- What is answered to a line that works on a file where no file stands: it is explained, whatever that is, and changes nothing.
use Rattle.std.specs.Prelude.{Err, List, None, Ok, Option, Result, Some, codes, ℕ}
use Rattle.std.specs.Char.{encode_utf8}
use Rattle.std.specs.Str.{chars, is_utf8}
use Rattle.hex.specs.Hex.{decode_pairs}
use Rattle.gs_base.specs.declared.config.Config.{Config}
use Rattle.gs_base.specs.declared.refusal.Refusal.{Refusal}
use Rattle.gs_path.specs.Path.{Path}
use Rattle.gs_path.specs.Rules.{parse, parse_hidden}
use Rattle.gs_shell_desk.specs.Answering.{AnswersText}
use Rattle.gs_shell_desk.specs.declared.desk.Desk.{Desk}
use Rattle.gs_shell_grammar.specs.Grammar.{Request, append_line, three_words}
use Rattle.gs_shell_grammar.specs.Grammar as lines
use Rattle.gs_shell_script.specs.Run.{AnswersLine}
use Rattle.gs_tree.specs.Entry.{Dir, Entry, File}
use Rattle.gs_tree.specs.Find.{at}
use Rattle.gs_laws_scripts.specs.explained.Lines.{Explains}
use Rattle.gs_laws_scripts.specs.explained.Machine.{Machine, Text, new_machine}
use Rattle.gs_laws_scripts.specs.explained.Standing.{Stands}
use Rattle.gs_laws_scripts.specs.plain.Machines.{asked_in}

-- nothing stands there, or a directory does
abbrev pub IsNoFile : Option (Entry Text) → Type 0
IsNoFile None = Unit {0}
IsNoFile (Some Dir) = Unit {0}
IsNoFile (Some (File texts)) = ⊥

-- at a path, if it is one
abbrev pub NoFileAt : Machine → Result Path Refusal → Type 0
NoFileAt m (Ok p) = IsNoFile (at m.plain.tree p)
NoFileAt m (Err refusal) = Unit {0}

-- a line reads or writes a file, and the machine has none at its path
abbrev pub FindsNoFile : Machine → Option Request → Type 0
FindsNoFile m (Some (lines.Read p offset many)) = NoFileAt m (parse_hidden p)
FindsNoFile m (Some (lines.Digest p chunk block)) = NoFileAt m (parse_hidden p)
FindsNoFile m (Some (lines.Write p offset bytes)) = NoFileAt m (parse p)
FindsNoFile m (Some (lines.Append p bytes)) = NoFileAt m (parse p)
FindsNoFile m asked = ⊥

-- ---- what is to hold

-- Such a line is explained, whatever it is answered, and the desk stands for the machine after it.
abbrev pub LinesWithoutAFile : Type 0 → Type 0
LinesWithoutAFile D = (seen : D → List ℕ) (failures : D → ℕ) (config : Config) (size block : ℕ) (old new : Desk D) (whole text : List ℕ) (m : Machine) → Stands seen config old m → FindsNoFile m (asked_in whole) → AnswersLine (AnswersText seen failures) old whole text new →
    AnswersLine (Explains size block) m whole text m × Stands seen config new m

-- ---- Worked: a new machine has no file at all
nothing_is_appended : FindsNoFile new_machine (asked_in (codes "append /f 61"))
unfolding three_words append_line decode_pairs is_utf8 chars encode_utf8
nothing_is_appended = tt
