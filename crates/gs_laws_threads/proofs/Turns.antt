-- What a line asks where the nodes run in threads.
use Rattle.std.proofs.Common.{◌≡◌, ◌⊎◌, ◌++◌, ℕ, zero, suc, Bool, true, false, Result, Ok, Err, refl, sym, subst}
use Rattle.std.specs.Prelude.{IfSome, if◌then◌else◌}
use Rattle.gs_base.specs.declared.refusal.Refusal.{Refusal}
use Rattle.gs_base.specs.declared.refusal.Refusal.TheVariants as refusals
use Rattle.gs_client_dialogue.specs.Dialogues.{Say, upon}
use Rattle.gs_client_dialogue.specs.Heard.{Says}
use Rattle.gs_msg.specs.declared.event.Request.{Request as Asked}
use Rattle.gs_client.specs.Trees as trees
use Rattle.gs_client.specs.Trees.{Call}
use Rattle.gs_client.specs.declared.link.Reply.{Reply}
use Rattle.gs_shell_calls.specs.Asked.{ends_so, is_unquiet, step_line}
use Rattle.gs_shell_calls.specs.declared.answer.Answer.{Answer}
use Rattle.gs_shell_grammar.specs.Grammar.{Request}
use Rattle.gs_shell_grammar.specs.Grammar as lines
use Rattle.gs_shell_grammar.specs.declared.command.Upgrade.{Upgrade}
use Rattle.gs_shell_grammar.specs.declared.command.Upgrade.TheVariants as upgrades
use Rattle.gs_shell_grammar.specs.declared.command.UpgradeStep.{UpgradeStep}
use Rattle.gs_shell_grammar.specs.declared.command.UpgradeStep.TheVariants as steps
use Rattle.gs_shell_threads.specs.Asked.{asked_in_threads, can_wait, commit_or_give_up, gives_up, is_for_now, more_turns, step_in_threads, until, upgrade_in_threads}
use Rattle.gs_laws_causes.proofs.Carrying.{explains}
use Rattle.gs_laws_causes.proofs.Lines.{each_line, gives_up as none_of_giving_up, step_has, upgrade_has}
use Rattle.gs_laws_causes.proofs.Ways.{Caused, Holds, behind_others, both_has, err_is, never, the_whole, upon_has}
use Rattle.gs_laws_causes.specs.Carried.{Explains}
use Rattle.gs_laws_causes.specs.Causes.{Exchanges}

module _ {e : Refusal} {either : (e ≡ refusals.NoReplica) ⊎ (e ≡ refusals.Unsure)} where
  -- a call that is made again while it is refused for now
  until_has : (more : ℕ) (call : Call Answer) → Holds e either call → Holds e either (until more call)
  unfolding until
  until_has zero call has = has
  until_has (suc more) call has = again (until more call) (until_has more call has)
    where
      again : (next : Call Answer) → Holds e either next → Holds e either (upon call (λ came. if is_for_now came then next else Say came))
      again next holds = upon_has call (λ came. if is_for_now came then next else Say came) each
        where
          by_test : (b : Bool) (f : Refusal) (first second whole : Exchanges) → whole ≡ first ++ second → Says call first (Err f) → Says (if b then next else Say (Err f)) second (Err e) → Caused e whole
          by_test true f first second whole is says rest = behind_others e either first second whole is (holds.tells second rest)
          by_test false f first second whole is says rest =
              the_whole e either first second whole is rest.1 (has.tells first (subst (λ g. Says call first (Err g)) (sym (err_is rest.0)) says))

          each : (r : Result Answer Refusal) (first second whole : Exchanges) → whole ≡ first ++ second → Says call first r → Says (if is_for_now r then next else Say r) second (Err e) → Caused e whole
          each (Ok x) first second whole is says rest = never rest.0
          each (Err f) first second whole is says rest = by_test (can_wait f) f first second whole is says rest

  commit_has : Holds e either commit_or_give_up
  commit_has = upon_has (until more_turns (step_line steps.PrepareCommit)) gives_up each
    where
      commits : Holds e either (until more_turns (step_line steps.PrepareCommit))
      commits = until_has more_turns (step_line steps.PrepareCommit) (step_has steps.PrepareCommit)

      by_test : (b : Bool) (f : Refusal) → is_unquiet f ≡ b → (first second whole : Exchanges) → whole ≡ first ++ second → Says (until more_turns (step_line steps.PrepareCommit)) first (Err f)
          → Says (if b then upon trees.prepare_abort_call (ends_so (Err f)) else Say (Err f)) second (Err e) → Caused e whole
      by_test true f so first second whole is says rest =
          behind_others e either first second whole is (none_of_giving_up e either f trees.prepare_abort_call (ends_so (Err f)) second (λ r. refl) so rest)
      by_test false f so first second whole is says rest =
          the_whole e either first second whole is rest.1
          (commits.tells first (subst (λ g. Says (until more_turns (step_line steps.PrepareCommit)) first (Err g)) (sym (err_is rest.0)) says))

      each : (r : Result Answer Refusal) (first second whole : Exchanges) → whole ≡ first ++ second → Says (until more_turns (step_line steps.PrepareCommit)) first r → Says (gives_up r) second (Err e) → Caused e whole
      each (Ok x) first second whole is says rest = never rest.0
      each (Err f) first second whole is says rest = by_test (is_unquiet f) f refl first second whole is says rest

  in_threads_has : (upgrade : Upgrade) → Holds e either (upgrade_in_threads upgrade)
  in_threads_has upgrades.Query = upgrade_has upgrades.Query
  in_threads_has upgrades.Prepare = both_has (step_has steps.PrepareBegin) (λ _. commit_has)
  in_threads_has upgrades.Finalize = upgrade_has upgrades.Finalize
  in_threads_has upgrades.Rollback = both_has (step_has steps.RollbackBegin) (λ _. until_has more_turns (step_line steps.RollbackCommit) (step_has steps.RollbackCommit))

  step_in_threads_has : (step : UpgradeStep) → Holds e either (step_in_threads step)
  step_in_threads_has steps.PrepareBegin = step_has steps.PrepareBegin
  step_in_threads_has steps.PrepareCommit = until_has more_turns (step_line steps.PrepareCommit) (step_has steps.PrepareCommit)
  step_in_threads_has steps.RollbackBegin = step_has steps.RollbackBegin
  step_in_threads_has steps.RollbackCommit = until_has more_turns (step_line steps.RollbackCommit) (step_has steps.RollbackCommit)

pub each_line_in_threads : {S : Type 0} (carries : S → Asked → Reply → S → Type 0) (size : ℕ) (line : Request) → IfSome (asked_in_threads size line) (Explains carries Answer)
each_line_in_threads carries size (lines.RollingUpgrade upgrade) = explains carries _ (λ e either. in_threads_has upgrade)
each_line_in_threads carries size (lines.Step step) = explains carries _ (λ e either. step_in_threads_has step)
each_line_in_threads carries size line = each_line carries size line
