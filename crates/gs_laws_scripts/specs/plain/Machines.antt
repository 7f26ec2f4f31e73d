-- The plain machine that answers lines: what a script of lines of the tree and of an upgrade is answered. It copies the whole tree at a prepare.
use Rattle.std.specs.Prelude.{[], ◌+◌, ◌∷◌, ◌≡◌, Bool, Err, List, None, Ok, Option, Result, Some, codes, false, if◌then◌else◌, length, nat_le, refl, true, ℕ}
use Rattle.gs_base.specs.declared.refusal.Refusal.{Refusal}
use Rattle.gs_base.specs.declared.refusal.Refusal.TheVariants as refusals
use Rattle.gs_edit.specs.Machine.{Plain, finalized, first, prepared, restored}
use Rattle.gs_msg.specs.declared.answer.Answer.{Answer as Said}
use Rattle.gs_msg.specs.declared.answer.Answer.TheVariants as says
use Rattle.gs_msg.specs.declared.answer.Phase.TheVariants as phases
use Rattle.gs_msg.specs.declared.call.Call.{Call}
use Rattle.gs_msg.specs.declared.call.Call.TheVariants as calls
use Rattle.gs_path.specs.Path.{Path}
use Rattle.gs_path.specs.Rules.{parse, parse_hidden}
use Rattle.gs_shell_calls.specs.Texts.{answer_text}
use Rattle.gs_shell_calls.specs.declared.answer.Answer.{Answer}
use Rattle.gs_shell_calls.specs.declared.answer.Answer.TheVariants as answers
use Rattle.gs_shell_grammar.specs.Grammar.{Request, line_request}
use Rattle.gs_shell_grammar.specs.Grammar as lines
use Rattle.gs_shell_grammar.specs.declared.command.Upgrade.{Upgrade}
use Rattle.gs_shell_grammar.specs.declared.command.Upgrade.TheVariants as upgrades
use Rattle.gs_shell_line.specs.Line.{content, longest_line}
use Rattle.gs_laws_plain.specs.calm.Calm.{hidden_after, plain_after}
use Rattle.gs_laws_plain.specs.commands.Answers.{plain_answer}
use Rattle.gs_laws_plain.specs.commands.Commands.{Texts}

-- the plain machine, its epoch, the number of the next deletion, and the moment
pub record Machine : Type 0 where
  pub plain : Plain (List ℕ)
  pub epoch : ℕ
  pub next_hidden : ℕ
  pub moment : ℕ

abbrev pub new_machine : Machine
new_machine = record { plain = first; epoch = 0; next_hidden = 1; moment = 0 }

-- ---- calls of the tree

abbrev pub on : Result Path Refusal → (Path → Call) → Result Call Refusal
on (Ok p) call = Ok (call p)
on (Err refusal) call = Err refusal

abbrev pub on_two : Result Path Refusal → Result Path Refusal → (Path → Path → Call) → Result Call Refusal
on_two (Ok p) to call = on to (call p)
on_two (Err refusal) to call = Err refusal

-- the call that a line of the tree makes, or the refusal of a path
abbrev pub call_of : Request → Option (Result Call Refusal)
call_of (lines.Mkdir p) = Some (on (parse p) calls.Mkdirs)
call_of (lines.Create p) = Some (on (parse p) calls.Create)
call_of (lines.Ls p) = Some (on (parse_hidden p) calls.List)
call_of (lines.Mv p q) = Some (on_two (parse p) (parse q) calls.Rename)
call_of (lines.Rm p recursive) = Some (on (parse p) (λ path. calls.Delete path recursive))
call_of (lines.Undelete p) = Some (on (parse_hidden p) calls.Undelete)
call_of (lines.Snapshot p q) = Some (on_two (parse p) (parse q) calls.Snapshot)
call_of request = None

-- how a line shows what was said
abbrev pub shown : Said → Answer
shown says.Nothing = answers.Done
shown (says.Path p) = answers.Path p
shown says.Absent = answers.Missing
shown (says.Names names) = answers.Names names
shown said = answers.Done

abbrev pub line_answer : Result Said Refusal → Result Answer Refusal
line_answer (Ok said) = Ok (shown said)
line_answer (Err refusal) = Err refusal

-- the machine behind a call that was answered so
abbrev pub moved : Call → Result Said Refusal → Machine → Machine
moved call said m = record m { plain = plain_after m.moment m.next_hidden call said m.plain; next_hidden = hidden_after m.moment m.next_hidden call said }

abbrev pub answered_as : Option (Result Said Refusal) → Call → Machine → Result Answer Refusal × Machine
answered_as None call m = (Err refusals.BadLine, m)
answered_as (Some said) call m = (line_answer said, moved call said m)

abbrev pub called : Result Call Refusal → Machine → Result Answer Refusal × Machine
called (Err refusal) m = (Err refusal, m)
called (Ok call) m = answered_as (plain_answer m.plain.tree m.moment m.next_hidden call) call m

-- ---- upgrades

abbrev pub goes_on : Machine → Plain (List ℕ) → Result Answer Refusal × Machine
goes_on m plain = (Ok (answers.Number (m.epoch + 1)), record m { plain = plain; epoch = m.epoch + 1 })

abbrev pub upgraded : Upgrade → Machine → Option Texts → Result Answer Refusal × Machine
upgraded upgrades.Query m None = (Ok (answers.Phase phases.Ordinary m.epoch), m)
upgraded upgrades.Query m (Some kept) = (Ok (answers.Phase phases.Upgrade m.epoch), m)
upgraded upgrades.Prepare m None = goes_on m (prepared m.plain)
upgraded upgrades.Prepare m (Some kept) = (Err refusals.AlreadyUpgrading, m)
upgraded upgrades.Finalize m None = (Err refusals.NotUpgrading, m)
upgraded upgrades.Finalize m (Some kept) = goes_on m (finalized m.plain)
upgraded upgrades.Rollback m None = (Err refusals.NotUpgrading, m)
upgraded upgrades.Rollback m (Some kept) = goes_on m (restored m.plain kept)

-- ---- lines

abbrev pub is_plain_call : Option (Result Call Refusal) → Request → Bool
is_plain_call (Some call) request = true
is_plain_call None (lines.RollingUpgrade upgrade) = true
is_plain_call None (lines.At moment) = true
is_plain_call None request = false

-- a line of the tree or of an upgrade, one that sets the moment, or one that asks for nothing
abbrev pub is_plain_request : Option Request → Bool
is_plain_request None = true
is_plain_request (Some request) = is_plain_call (call_of request) request

abbrev pub comes_by : Option (Result Call Refusal) → Request → Machine → Result Answer Refusal × Machine
comes_by (Some call) request m = called call m
comes_by None (lines.RollingUpgrade upgrade) m = upgraded upgrade m m.plain.kept
comes_by None (lines.At moment) m = (Ok answers.Done, record m { moment = moment })
comes_by None request m = (Err refusals.BadLine, m)

abbrev pub comes : Option Request → Machine → Result Answer Refusal × Machine
comes None m = (Err refusals.BadLine, m)
comes (Some request) m = comes_by (call_of request) request m

-- a line with its end; one that is too long is bad
abbrev pub asked_in : List ℕ → Option Request
asked_in whole = if nat_le (length (content whole)) longest_line then line_request (content whole) else None

abbrev pub is_plain_line : List ℕ → Bool
is_plain_line whole = is_plain_request (asked_in whole)

abbrev pub machine_answers : List (List ℕ) → Machine → List (List ℕ)
machine_answers [] m = []
machine_answers (whole ∷ lines) m = answer_text (comes (asked_in whole) m).0 ∷ machine_answers lines (comes (asked_in whole) m).1

-- ---- Worked

abbrev upgrade : Upgrade → Machine → Result Answer Refusal × Machine
upgrade u m = comes (Some (lines.RollingUpgrade u)) m

an_upgrade_begins : (upgrade upgrades.Prepare new_machine).0 ≡ Ok (answers.Number 1)
an_upgrade_begins = refl

a_directory_is_made_and_taken_back :
    (upgrade upgrades.Rollback (called (Ok (calls.Mkdirs (codes "d" ∷ []))) (upgrade upgrades.Prepare new_machine).1).1).1 ≡ record new_machine { epoch = 2 }
a_directory_is_made_and_taken_back = refl

nothing_to_finalize : (upgrade upgrades.Finalize new_machine).0 ≡ Err refusals.NotUpgrading
nothing_to_finalize = refl

what_is_deleted_is_hidden : (called (Ok (calls.Delete (codes "d" ∷ []) true)) (called (Ok (calls.Mkdirs (codes "d" ∷ []))) new_machine).1).1.next_hidden ≡ 2
what_is_deleted_is_hidden = refl

a_scan_is_not_in_it : is_plain_request (Some lines.Scan) ≡ false
a_scan_is_not_in_it = refl
