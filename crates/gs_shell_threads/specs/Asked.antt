-- What a line asks of a store whose nodes run in threads: as of one on one thread, but that a commit which can't be yet is asked for again.
use Rattle.std.specs.Prelude.{◌≡◌, ℕ, zero, suc, Bool, true, false, if◌then◌else◌, Option, Some, Result, Ok, Err, refl}
use Rattle.gs_base.specs.declared.refusal.Refusal.{Refusal}
use Rattle.gs_base.specs.declared.refusal.Refusal.TheVariants as refusals
use Rattle.gs_client.specs.Trees as trees
use Rattle.gs_client.specs.Trees.{Call}
use Rattle.gs_client_dialogue.specs.Dialogues.{Say, both, upon}
use Rattle.gs_shell_calls.specs.Asked.{asked_by, ends_so, is_unquiet, step_line, upgrade_line}
use Rattle.gs_shell_calls.specs.declared.answer.Answer.{Answer}
use Rattle.gs_shell_grammar.specs.Grammar.{Request}
use Rattle.gs_shell_grammar.specs.Grammar as lines
use Rattle.gs_shell_grammar.specs.declared.command.Upgrade.{Upgrade}
use Rattle.gs_shell_grammar.specs.declared.command.Upgrade.TheVariants as upgrades
use Rattle.gs_shell_grammar.specs.declared.command.UpgradeStep.{UpgradeStep}
use Rattle.gs_shell_grammar.specs.declared.command.UpgradeStep.TheVariants as steps

-- a chunk isn't quiet, or none has named it
abbrev pub can_wait : Refusal → Bool
can_wait (refusals.NotQuiet handle) = true
can_wait (refusals.Unrestored handle) = true
can_wait refusal = false

abbrev pub is_for_now : Result Answer Refusal → Bool
is_for_now (Ok answer) = false
is_for_now (Err refusal) = can_wait refusal

abbrev pub is_refused_unquiet : Result Answer Refusal → Bool
is_refused_unquiet (Ok answer) = false
is_refused_unquiet (Err refusal) = is_unquiet refusal

-- While a call is refused for now it is made again, so often more at most.
unfoldable pub until : ℕ → Call Answer → Call Answer
until zero call = call
until (suc more) call = upon call (λ came. if is_for_now came then until more call else Say came)

-- ten thousand times in all
abbrev pub more_turns : ℕ
more_turns = 9999

-- where a chunk isn't quiet, a prepare that was begun is given up
abbrev pub gives_up : Result Answer Refusal → Call Answer
gives_up came = if is_refused_unquiet came then upon trees.prepare_abort_call (ends_so came) else Say came

abbrev pub commit_or_give_up : Call Answer
commit_or_give_up = upon (until more_turns (step_line steps.PrepareCommit)) gives_up

abbrev pub prepare_line : Call Answer
prepare_line = both (step_line steps.PrepareBegin) (λ _. commit_or_give_up)

abbrev pub rollback_line : Call Answer
rollback_line = both (step_line steps.RollbackBegin) (λ _. until more_turns (step_line steps.RollbackCommit))

abbrev pub upgrade_in_threads : Upgrade → Call Answer
upgrade_in_threads upgrades.Query = upgrade_line upgrades.Query
upgrade_in_threads upgrades.Prepare = prepare_line
upgrade_in_threads upgrades.Finalize = upgrade_line upgrades.Finalize
upgrade_in_threads upgrades.Rollback = rollback_line

abbrev pub step_in_threads : UpgradeStep → Call Answer
step_in_threads steps.PrepareBegin = step_line steps.PrepareBegin
step_in_threads steps.PrepareCommit = until more_turns (step_line steps.PrepareCommit)
step_in_threads steps.RollbackBegin = step_line steps.RollbackBegin
step_in_threads steps.RollbackCommit = until more_turns (step_line steps.RollbackCommit)

abbrev pub asked_in_threads : ℕ → Request → Option (Call Answer)
asked_in_threads size (lines.RollingUpgrade upgrade) = Some (upgrade_in_threads upgrade)
asked_in_threads size (lines.Step step) = Some (step_in_threads step)
asked_in_threads size request = asked_by size request

-- Worked: another refusal is answered at once.
it_is_answered : (call : Call Answer) → upon (Say (Err refusals.NotFound)) (λ came. if is_for_now came then call else Say came) ≡ Say (Err refusals.NotFound)
it_is_answered call = refl
