-- What the law of the answers of a script says.
use Rattle.std.specs.Prelude.{◌≡◌, ◌≢◌, ℕ, List, [], Option}
use Rattle.gs_base.specs.declared.config.Config.{Config}
use Rattle.gs_shell_desk.specs.Answering.{AnswersText}
use Rattle.gs_shell_desk.specs.Starting.{Starts}
use Rattle.gs_shell_desk.specs.Ways.{way_of}
use Rattle.gs_shell_desk.specs.declared.desk.Desk.{Desk}
use Rattle.gs_shell_script.specs.Run.{AnswersLine, memory_text}
use Rattle.gs_shell.specs.Serving.{Serves}
use Rattle.gs_laws_scripts.specs.answers.Meeting.{IsCalm, Reaches, WentWell}
use Rattle.gs_laws_scripts.specs.answers.Plain.{PlainDesk, answers_line, answers_of, begins, runs}

-- A desk that begins over empty disks is as the plain one that begins.
abbrev pub DesksBeginAsPlain : Type 0 → Type 0
DesksBeginAsPlain D = (seen : D → List ℕ) (failures : D → ℕ) (config : Config) (disks : D × D) (desk : Desk D) → seen disks.0 ≡ [] → seen disks.1 ≡ []
    → Starts seen failures config disks desk → Reaches seen failures config disks desk (begins config)

-- A line is answered as the plain desk answers it, where memory is not wanting and no disk fails.
abbrev pub LinesAnswerAsPlain : Type 0 → Type 0
LinesAnswerAsPlain D = (seen : D → List ℕ) (failures : D → ℕ) (config : Config) (disks : D × D) (old new : Desk D) (whole text : List ℕ) (w : PlainDesk)
    → seen disks.0 ≡ [] → seen disks.1 ≡ [] → AnswersLine (AnswersText seen failures) old whole text new → text ≢ memory_text
    → IsCalm failures (way_of old.wire) (way_of new.wire) → Reaches seen failures config disks old w
    → (text ≡ (answers_line whole w).0) × Reaches seen failures config disks new (answers_line whole w).1

-- So the texts of a script are a function of the configuration and the input.
abbrev pub ScriptsAnswerAsPlain : Type 0 → Type 0
ScriptsAnswerAsPlain D = (seen : D → List ℕ) (failures : D → ℕ) (config : Config) (disks : D × D) (input : List ℕ) (old new : Option (List ℕ)) (s : Serves seen failures config disks input old new)
    → WentWell seen failures disks s.writes.texts s.ended → (s.writes.texts ≡ answers_of config input) × Reaches seen failures config disks s.ended (runs config input).1

-- Two such scripts of one configuration and input write the same.
abbrev pub ScriptsAnswerAlike : Type 0 → Type 0
ScriptsAnswerAlike D = (seen : D → List ℕ) (failures : D → ℕ) (config : Config) (disks others : D × D) (input : List ℕ) (old new before after : Option (List ℕ)) (s : Serves seen failures config disks input old new) (t : Serves seen failures config others input before after)
    → WentWell seen failures disks s.writes.texts s.ended → WentWell seen failures others t.writes.texts t.ended → s.writes.texts ≡ t.writes.texts
