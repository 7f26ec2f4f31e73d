-- Lines of the tree and of an upgrade, as the plain machine answers them, are explained; so are scripts of them.
use Rattle.std.proofs.Common.{ap, inl, inr, refl, subst, sym}
use Rattle.std.proofs.lemmas.Bool.{false≢true}
use Rattle.std.specs.Prelude.{[], ◌++◌, ◌+◌, ◌∷◌, ◌≡◌, Bool, Err, List, MatchOption, None, Ok, Option, Result, Some, false, if◌then◌else◌, length, nat_le, take, true, ℕ}
use Rattle.std.specs.List.{AllByRecursion}
use Rattle.gs_base.specs.declared.config.Config.{Config}
use Rattle.gs_base.specs.declared.refusal.Refusal.{Refusal}
use Rattle.gs_base.specs.declared.refusal.Refusal.TheVariants as refusals
use Rattle.gs_journal.specs.Memory.{bytes_of, times_failed}
use Rattle.gs_laws_plain.specs.commands.Commands.{Texts}
use Rattle.gs_msg.specs.declared.answer.Answer.TheVariants as says
use Rattle.gs_msg.specs.declared.answer.Phase.TheVariants as phases
use Rattle.gs_msg.specs.declared.call.Call.{Call}
use Rattle.gs_msg.specs.declared.call.Call.TheVariants as calls
use Rattle.gs_nodes.specs.NewDisks.{OverEmpty}
use Rattle.gs_path.specs.Path.{Path}
use Rattle.gs_path.specs.Rules.{parse, parse_hidden}
use Rattle.gs_shell.proofs.Answered.{answers}
use Rattle.gs_shell.specs.Answering.{Answers, IsUntroubled}
use Rattle.gs_shell.specs.Telling.{Tells}
use Rattle.gs_shell.specs.Watching.{both_watched, failures_of, seen_of}
use Rattle.gs_shell.specs.declared.trouble.Trouble.{Trouble}
use Rattle.gs_shell_calls.specs.Texts.{answer_text}
use Rattle.gs_shell_calls.specs.declared.answer.Answer.{Answer}
use Rattle.gs_shell_desk.specs.Answering.{IsText}
use Rattle.gs_shell_grammar.specs.Grammar.{Request, line_request}
use Rattle.gs_shell_grammar.specs.Grammar as lines
use Rattle.gs_shell_grammar.specs.declared.command.Upgrade.{Upgrade}
use Rattle.gs_shell_grammar.specs.declared.command.Upgrade.TheVariants as upgrades
use Rattle.gs_shell_line.specs.Line.{content, longest_line}
use Rattle.gs_shell_script.specs.Run.{AnswersIfShort, AnswersLine, Runs}
use Rattle.gs_shell_script.specs.declared.RunFault.{RunFault}
use Rattle.gs_laws_scripts.proofs.lemmas.explained.Lifted.{create_leads, delete_leads, lifted, lifted_of, list_leads, mkdirs_leads, rename_leads, rows_quiet, snapshot_leads, undelete_leads}
use Rattle.gs_laws_scripts.proofs.lemmas.plain.Answering.{scripts_are_plain}
use Rattle.gs_laws_scripts.proofs.lemmas.plain.Stopping.{are_plain_until_a_read_fails, are_plain_until_a_write_fails, first_lines}
use Rattle.gs_laws_scripts.proofs.lemmas.plain.Untroubled.{went_well}
use Rattle.gs_laws_scripts.specs.explained.Lines.{AreExplained, AsksTree, Explains, Leads, Upgrades}
use Rattle.gs_laws_scripts.specs.explained.Machine.{Machine, prepared_machine}
use Rattle.gs_laws_scripts.specs.explained.Scripts.{AreExplainedUntilAReadFails, AreExplainedUntilAWriteFails, BeginningsAreExplained, ScriptsOfTheTreeAreExplained}
use Rattle.gs_laws_scripts.specs.plain.Machines.{Machine as TreeMachine, asked_in, is_plain_line, is_plain_request, machine_answers, new_machine, on, on_two}
use Rattle.gs_laws_scripts.specs.plain.Machines as plainly
use Rattle.gs_laws_scripts.specs.plain.Scripts.{ArePlain}

-- ---- lines of an upgrade

abbrev tree_machine : Texts → Option Texts → ℕ → ℕ → ℕ → TreeMachine
tree_machine tree kept epoch next moment = record { plain = record { tree = tree; kept = kept }; epoch = epoch; next_hidden = next; moment = moment }

abbrev begun : Texts → ℕ → ℕ → ℕ → Machine
begun tree epoch next moment = record (lifted_of tree None epoch next moment) { phase = phases.Preparing }

abbrev rolling : Texts → Texts → ℕ → ℕ → ℕ → Machine
rolling tree kept epoch next moment = record (lifted_of tree (Some kept) (epoch + 1) next moment) { phase = phases.Rolling }

-- nothing is owed to what a prepare keeps
kept_so : (tree : Texts) (epoch next moment : ℕ) → lifted_of tree (Some tree) (epoch + 1) next moment ≡ prepared_machine (begun tree epoch next moment)
kept_so tree epoch next moment = ap (λ rows. record (lifted_of tree (Some tree) (epoch + 1) next moment) { plain = record { tree = rows; kept = Some rows } }) (sym (rows_quiet tree))

upgrade_leads : (size : ℕ) (upgrade : Upgrade) (tree : Texts) (kept : Option Texts) (epoch next moment : ℕ) →
    Upgrades size upgrade (lifted (tree_machine tree kept epoch next moment)) (plainly.upgraded upgrade (tree_machine tree kept epoch next moment) kept).0 (lifted (plainly.upgraded upgrade (tree_machine tree kept epoch next moment) kept).1)
upgrade_leads size upgrades.Query tree None epoch next moment = (Ok (says.Phase phases.Ordinary epoch), ([], inl (refl, refl)), refl)
upgrade_leads size upgrades.Query tree (Some kept) epoch next moment = (Ok (says.Phase phases.Upgrade epoch), ([], inl (refl, refl)), refl)
upgrade_leads size upgrades.Prepare tree None epoch next moment = (
  prepared_machine (begun tree epoch next moment),
  inr (says.Epoch epoch, begun tree epoch next moment, ([], inl (refl, refl)), (Ok (says.Epoch (epoch + 1)), ([], inl (refl, refl)), refl)),
  kept_so tree epoch next moment,
)
upgrade_leads size upgrades.Prepare tree (Some kept) epoch next moment = (lifted_of tree (Some kept) epoch next moment, inl (refusals.AlreadyUpgrading, ([], inl (refl, refl)), refl), refl)
upgrade_leads size upgrades.Finalize tree None epoch next moment = (Err refusals.NotUpgrading, ([], inl (refl, refl)), refl)
upgrade_leads size upgrades.Finalize tree (Some kept) epoch next moment = (Ok (says.Epoch (epoch + 1)), ([], inl (refl, refl)), refl)
upgrade_leads size upgrades.Rollback tree None epoch next moment = inl (refusals.NotUpgrading, ([], inl (refl, refl)), refl)
upgrade_leads size upgrades.Rollback tree (Some kept) epoch next moment = inr (says.Epoch (epoch + 1), rolling tree kept epoch next moment, ([], inl (refl, refl)), (Ok (says.Epoch (epoch + 1)), ([], inl (refl, refl)), refl))

-- ---- lines

module _ (size block : ℕ) (m : TreeMachine) where
  -- a call by one path, or two, if they are such
  abbrev TreeLeads : Result Call Refusal → Type 0
  TreeLeads call = AsksTree size call (lifted m) (plainly.called call m).0 (lifted (plainly.called call m).1)

  by_path : (read : Result Path Refusal) (call : Path → Call) → ((p : Path) → TreeLeads (Ok (call p))) → TreeLeads (on read call)
  by_path (Ok p) call each = each p
  by_path (Err refusal) call each = (refl, refl)

  by_two : (from to : Result Path Refusal) (call : Path → Path → Call) → ((p q : Path) → TreeLeads (Ok (call p q))) → TreeLeads (on_two from to call)
  by_two (Ok p) to call each = by_path to (call p) (each p)
  by_two (Err refusal) to call each = (refl, refl)

  request_leads : (request : Request) → is_plain_request (Some request) ≡ true → Leads size block request (lifted m) (plainly.comes (Some request) m).0 (lifted (plainly.comes (Some request) m).1)
  request_leads (lines.Mkdir p) is = by_path (parse p) calls.Mkdirs (λ path. mkdirs_leads size path m)
  request_leads (lines.Create p) is = by_path (parse p) calls.Create (λ path. create_leads size path m)
  request_leads (lines.Ls p) is = by_path (parse_hidden p) calls.List (λ path. list_leads size path m)
  request_leads (lines.Mv p q) is = by_two (parse p) (parse q) calls.Rename (λ from to. rename_leads size from to m)
  request_leads (lines.Rm p recursive) is = by_path (parse p) (λ path. calls.Delete path recursive) (λ path. delete_leads size path recursive m)
  request_leads (lines.Undelete p) is = by_path (parse_hidden p) calls.Undelete (λ path. undelete_leads size path m)
  request_leads (lines.Snapshot p q) is = by_two (parse p) (parse q) calls.Snapshot (λ from to. snapshot_leads size from to m)
  request_leads (lines.RollingUpgrade upgrade) is = upgrade_leads size upgrade m.plain.tree m.plain.kept m.epoch m.next_hidden m.moment
  request_leads (lines.At moment) is = (lifted m, ([], refl), refl, refl)
  request_leads (lines.Stat p) is = absurd (false≢true is)
  request_leads (lines.Write p offset bytes) is = absurd (false≢true is)
  request_leads (lines.Append p bytes) is = absurd (false≢true is)
  request_leads (lines.Read p offset many) is = absurd (false≢true is)
  request_leads (lines.Digest p chunk index) is = absurd (false≢true is)
  request_leads lines.Scan is = absurd (false≢true is)
  request_leads lines.Replicate is = absurd (false≢true is)
  request_leads (lines.Beat server) is = absurd (false≢true is)
  request_leads lines.Tick is = absurd (false≢true is)
  request_leads (lines.Step step) is = absurd (false≢true is)
  request_leads (lines.Restart node) is = absurd (false≢true is)
  request_leads (lines.Lose server handle) is = absurd (false≢true is)
  request_leads (lines.Damage server handle index) is = absurd (false≢true is)
  request_leads (lines.Hold kind) is = absurd (false≢true is)
  request_leads (lines.Deliver number) is = absurd (false≢true is)

  -- the text of the plain machine's answer
  abbrev TextLeads : Option Request → Type 0
  TextLeads request =
      let text = answer_text (plainly.comes request m).0 in
      let new = lifted (plainly.comes request m).1 in
      MatchOption request (IsText (Err refusals.BadLine) text × (new ≡ lifted m)) (λ asked. (answer : Result Answer Refusal) × Leads size block asked (lifted m) answer new × IsText answer text)

  text_leads : (request : Option Request) → is_plain_request request ≡ true → TextLeads request
  text_leads None is = (inl refl, refl)
  text_leads (Some request) is = ((plainly.comes (Some request) m).0, request_leads request is, inl refl)

  line_leads : (whole : List ℕ) → is_plain_line whole ≡ true → AnswersLine (Explains size block) (lifted m) whole (answer_text (plainly.comes (asked_in whole) m).0) (lifted (plainly.comes (asked_in whole) m).1)
  line_leads whole is = inr (by_length (nat_le (length (content whole)) longest_line) is)
    where
      by_length : (short : Bool) → is_plain_request (if short then line_request (content whole) else None) ≡ true
          → AnswersIfShort (Explains size block) short (lifted m) (content whole) (answer_text (plainly.comes (if short then line_request (content whole) else None) m).0) (lifted (plainly.comes (if short then line_request (content whole) else None) m).1)
      by_length true is = text_leads (line_request (content whole)) is
      by_length false is = (refl, refl)

-- ---- scripts

lines_lead : (size block : ℕ) (all : List (List ℕ)) (m : TreeMachine) → AllByRecursion (λ whole. is_plain_line whole ≡ true) all → (end : Machine) × Runs (Explains size block) (lifted m) all (machine_answers all m) end
lines_lead size block [] m are = (lifted m, refl)
lines_lead size block (whole ∷ all) m are =
    let rest = lines_lead size block all (plainly.comes (asked_in whole) m).1 are.1 in (rest.0, (lifted (plainly.comes (asked_in whole) m).1, line_leads size block m whole are.0, rest.1))

pub machine_is_explained : (size block : ℕ) (all : List (List ℕ)) → AllByRecursion (λ whole. is_plain_line whole ≡ true) all → AreExplained size block all (machine_answers all new_machine)
machine_is_explained size block all are = lines_lead size block all new_machine are

-- what the plain machine answers is explained
pub plain_is_explained : (size block : ℕ) (all texts : List (List ℕ)) → ArePlain all texts → BeginningsAreExplained size block all texts
plain_is_explained size block all texts plain many are room = subst (AreExplained size block (take many all)) (sym (plain many are room)) (machine_is_explained size block (take many all) are)

module _ {D : Type 0} (seen : D → List ℕ) (failures : D → ℕ) (config : Config) (disks : D × D) where
  pub scripts_of_the_tree : ScriptsOfTheTreeAreExplained seen failures config disks
  scripts_of_the_tree input old new s well = plain_is_explained config.chunk config.block _ s.writes.texts (scripts_are_plain seen failures config disks input old new s well)

  pub until_a_read_fails : AreExplainedUntilAReadFails seen failures config disks
  until_a_read_fails input left old new s well = plain_is_explained config.chunk config.block s.fails.lines s.fails.written.texts (are_plain_until_a_read_fails seen failures config disks input left old new s well)

  pub until_a_write_fails : AreExplainedUntilAWriteFails seen failures config disks
  until_a_write_fails input left old new s =
      let plain = are_plain_until_a_write_fails seen failures config disks input left old new s in (
        λ well. plain_is_explained config.chunk config.block s.fails.lines s.fails.written.texts (plain.0 well),
        λ well. plain_is_explained config.chunk config.block (s.fails.lines ++ s.fails.line ∷ []) (s.fails.written.texts ++ s.fails.text ∷ []) (plain.1 well),
      )

-- ---- a run that tells that nothing went wrong

pub are_explained : (config : Config) (trouble : Trouble) (r : Result (Unit {0}) RunFault) (before left old new : Option (List ℕ)) → OverEmpty (λ disks. Tells bytes_of times_failed config disks trouble r before left old new)
    → Answers (λ lines texts. IsUntroubled trouble texts → BeginningsAreExplained config.chunk config.block lines texts) r before left old new
are_explained config trouble r before left old new (disks, empty, told) =
    answers bytes_of times_failed config disks trouble (λ lines texts. IsUntroubled trouble texts → BeginningsAreExplained config.chunk config.block lines texts)
    (λ begun ended starts it input lines more texts parts runs calm.
    plain_is_explained config.chunk config.block lines texts
    (first_lines (seen_of bytes_of) (failures_of times_failed) config (both_watched disks) begun ended starts input lines more texts parts runs (went_well disks empty trouble ended it texts calm)))
    left old new r before told
