-- What a line asks of a store: the requests that it makes after each answer, and what it comes to.
use Rattle.std.specs.Prelude.{ℕ, Bool, true, false, if◌then◌else◌, List, Option, Some, None, Result, Ok, Err}
use Rattle.gs_base.specs.declared.refusal.Refusal.{Refusal}
use Rattle.gs_base.specs.declared.refusal.Refusal.TheVariants as refusals
use Rattle.gs_client.specs.Files.{open_call}
use Rattle.gs_client.specs.Opened.{File}
use Rattle.gs_client.specs.Reading.{digest_call, read_call, stat_call}
use Rattle.gs_client.specs.Trees as trees
use Rattle.gs_client.specs.Trees.{Call}
use Rattle.gs_client.specs.Writing.{append_call, write_call}
use Rattle.gs_client_part.specs.declared.located.Located.{Located}
use Rattle.gs_client_dialogue.specs.Dialogues.{Grow, Say, both, upon}
use Rattle.gs_shell_grammar.specs.Grammar.{Request}
use Rattle.gs_shell_grammar.specs.Grammar as lines
use Rattle.gs_shell_grammar.specs.declared.command.Upgrade.{Upgrade}
use Rattle.gs_shell_grammar.specs.declared.command.Upgrade.TheVariants as upgrades
use Rattle.gs_shell_grammar.specs.declared.command.UpgradeStep.{UpgradeStep}
use Rattle.gs_shell_grammar.specs.declared.command.UpgradeStep.TheVariants as steps
use Rattle.gs_msg.specs.declared.answer.Phase.{Phase}
use Rattle.gs_path.specs.Path.{Path}
use Rattle.gs_path.specs.Rules.{parse, parse_hidden}
use Rattle.gs_shell_calls.specs.declared.answer.Answer.{Answer}
use Rattle.gs_shell_calls.specs.declared.answer.Answer.TheVariants as answers

-- ---- what is asked of the store

-- the path of a text, for which memory may be wanted
abbrev pub path_in : Result Path Refusal → Call Path
path_in path = Grow (Say path)

-- the answer to what a call came to
abbrev pub answered : {A : Type 0} → (A → Answer) → Result A Refusal → Result Answer Refusal
answered answer (Ok x) = Ok (answer x)
answered answer (Err refusal) = Err refusal

-- a call, and its answer
abbrev pub plain : {A : Type 0} → Call A → (A → Answer) → Call Answer
plain call answer = both call (λ x. Say (Ok (answer x)))

-- a call on a path, and its answer
abbrev pub on : {A : Type 0} → Result Path Refusal → (Path → Call A) → (A → Answer) → Call Answer
on path call answer = both (path_in path) (λ p. plain (call p) answer)

abbrev pub done : Unit {0} → Answer
done u = answers.Done

-- a call on two paths
abbrev pub on_two : Result Path Refusal → Result Path Refusal → (Path → Path → Call (Unit {0})) → Call Answer
on_two from to call = both (path_in from) (λ p. on to (call p) done)

abbrev pub scanned : ℕ × ℕ → Answer
scanned counts = answers.Scanned counts.0 counts.1

abbrev pub at_phase : Phase × ℕ → Answer
at_phase found = answers.Phase found.0 found.1

abbrev pub hidden : Option Path → Answer
hidden (Some path) = answers.Path path
hidden None = answers.Missing

-- a call on an open file
abbrev pub with_file : {A : Type 0} → (File → Call A) → Path → Call A
with_file call path = both (open_call path) call

abbrev pub write_to : ℕ → ℕ → List ℕ → File → Call (Unit {0})
write_to size offset bytes file = write_call size file.path file.opened offset bytes

abbrev pub append_to : ℕ → List ℕ → File → Call ℕ
append_to size bytes file = append_call size file.path file.opened bytes

abbrev pub read_of : ℕ → ℕ → ℕ → File → Call (List ℕ × Option Located)
read_of size offset many file = read_call size file.path file.opened file.located offset many

abbrev pub digest_of : ℕ → ℕ → File → Call (List ℕ × Option Located)
digest_of chunk block file = digest_call file.path file.opened file.located chunk block

abbrev pub given_bytes : List ℕ × Option Located → Answer
given_bytes found = answers.Bytes found.0

abbrev pub given_digest : List ℕ × Option Located → Answer
given_digest found = answers.Digest found.0

-- a prepare is begun and committed; where a chunk isn't quiet what was begun is given up
abbrev pub is_unquiet : Refusal → Bool
is_unquiet (refusals.NotQuiet handle) = true
is_unquiet refusal = false

-- what was asked came to something, which is passed over
abbrev pub ends_so : Result Answer Refusal → Result ℕ Refusal → Call Answer
ends_so answer came = Say answer

abbrev pub unless_quiet : Result ℕ Refusal → Call Answer
unless_quiet (Ok epoch) = Say (Ok (answers.Number epoch))
unless_quiet (Err refusal) = if is_unquiet refusal then upon trees.prepare_abort_call (ends_so (Err refusal)) else Say (Err refusal)

abbrev pub prepare_line : Call Answer
prepare_line = both trees.prepare_begin_call (λ _. upon trees.prepare_commit_call unless_quiet)

-- a rollback is begun and committed; where a chunk has no answer it stays begun
abbrev pub rollback_line : Call Answer
rollback_line = both trees.rollback_begin_call (λ _. plain trees.rollback_commit_call answers.Number)

abbrev pub upgrade_line : Upgrade → Call Answer
upgrade_line upgrades.Query = plain trees.query_call at_phase
upgrade_line upgrades.Prepare = prepare_line
upgrade_line upgrades.Finalize = plain trees.finalize_call answers.Number
upgrade_line upgrades.Rollback = rollback_line

abbrev pub step_line : UpgradeStep → Call Answer
step_line steps.PrepareBegin = plain trees.prepare_begin_call answers.Number
step_line steps.PrepareCommit = plain trees.prepare_commit_call answers.Number
step_line steps.RollbackBegin = plain trees.rollback_begin_call answers.Number
step_line steps.RollbackCommit = plain trees.rollback_commit_call answers.Number

-- What a line asks of a store with chunks of this size, if it asks something. Paths are judged before anything is asked.
abbrev pub asked_by : ℕ → Request → Option (Call Answer)
asked_by size (lines.Mkdir p) = Some (on (parse p) trees.mkdirs_call done)
asked_by size (lines.Create p) = Some (on (parse p) trees.create_call done)
asked_by size (lines.Ls p) = Some (on (parse_hidden p) trees.list_call answers.Names)
asked_by size (lines.Stat p) = Some (on (parse_hidden p) (stat_call size) answers.Stat)
asked_by size (lines.Mv p q) = Some (on_two (parse p) (parse q) trees.rename_call)
asked_by size (lines.Rm p recursive) = Some (on (parse p) (λ path. trees.delete_call path recursive) hidden)
asked_by size (lines.Undelete p) = Some (on (parse_hidden p) trees.undelete_call answers.Path)
asked_by size (lines.Snapshot p q) = Some (on_two (parse p) (parse q) trees.snapshot_call)
asked_by size (lines.Write p offset bytes) = Some (on (parse p) (with_file (write_to size offset bytes)) done)
asked_by size (lines.Append p bytes) = Some (on (parse p) (with_file (append_to size bytes)) answers.Number)
asked_by size (lines.Read p offset many) = Some (on (parse_hidden p) (with_file (read_of size offset many)) given_bytes)
asked_by size (lines.Digest p chunk block) = Some (on (parse_hidden p) (with_file (digest_of chunk block)) given_digest)
asked_by size lines.Scan = Some (plain trees.scan_call scanned)
asked_by size lines.Replicate = Some (plain trees.replicate_call answers.Copied)
asked_by size (lines.RollingUpgrade upgrade) = Some (upgrade_line upgrade)
asked_by size (lines.Step step) = Some (step_line step)
asked_by size (lines.Beat server) = None
asked_by size lines.Tick = None
asked_by size (lines.At moment) = None
asked_by size (lines.Restart node) = None
asked_by size (lines.Lose server handle) = None
asked_by size (lines.Damage server handle block) = None
asked_by size (lines.Hold kind) = None
asked_by size (lines.Deliver number) = None
