-- The epoch and the phase that stand right after a prepare, or a rollback, that is accepted.
use Rattle.std.proofs.Common.{[], ap, refl, sym, ◌&&◌, ◌==◌, ◌∷◌, ◌∙◌, ◌≡◌, Bool, List, None, Ok, Option, Some, false, true, ℕ}
use Rattle.std.proofs.lemmas.Bool.{false≢true}
use Rattle.std.specs.FinMap as fin
use Rattle.std.specs.Prelude.{if◌then◌else◌, is_some, option_and_then}
use Rattle.gs_base.specs.declared.config.Config.{Config}
use Rattle.gs_base.specs.declared.numbers.Moment.{Moment}
use Rattle.gs_base.specs.declared.numbers.ReqId.{ReqId}
use Rattle.gs_base.specs.declared.refusal.Refusal.{Refusal}
use Rattle.gs_base.specs.declared.refusal.Refusal.TheVariants as refusals
use Rattle.gs_edit.specs.View.{NamesView}
use Rattle.gs_laws_chunks.specs.answers.Behind.{is_halt}
use Rattle.gs_laws_looks.proofs.lemmas.lists.Commits.{commit_so, prepare_so}
use Rattle.gs_laws_master.proofs.lemmas.upgrades.Beginnings.{fits_gives}
use Rattle.gs_laws_moves.proofs.lemmas.looks.Looks.{no_answer}
use Rattle.gs_laws_moves.specs.answers.AtOnce.{OneSays}
use Rattle.gs_master_record.specs.Plain.{PlainEntry, RollbackCommit}
use Rattle.gs_master_record.specs.declared.checkpoint.Phase.{Phase as Durable_phase}
use Rattle.gs_master_record.specs.declared.checkpoint.Phase.TheVariants.{Ordinary, Rolling, Upgrade}
use Rattle.gs_master_record.specs.declared.entry.Answered.{Answered}
use Rattle.gs_master_spec.specs.Applied.{after_undoing, applied, are_answers, replayed, rolled_back}
use Rattle.gs_master_spec.specs.Calls.{refused_before, told_phase}
use Rattle.gs_master_spec.specs.Durable.{Durable, is_ordinary, is_rolling, is_upgrade, prepared_view}
use Rattle.gs_master_spec.specs.Handling.{called_unless, new_call}
use Rattle.gs_master_spec.specs.State.{State, Turn, fits, refused, turned}
use Rattle.gs_master_spec.specs.Undoing.{all_undone}
use Rattle.gs_master_spec.specs.Upgrades.{accepted_plan, answers_for, commit_if, commit_on, told_of, unrestored}
use Rattle.gs_master_spec.specs.declared.change.Change.TheVariants as changes
use Rattle.gs_msg.specs.declared.answer.Answer.TheVariants as says
use Rattle.gs_msg.specs.declared.answer.Phase.{Phase}
use Rattle.gs_msg.specs.declared.answer.Phase.TheVariants as phases
use Rattle.gs_msg.specs.declared.call.Call.{Call}
use Rattle.gs_msg.specs.declared.call.Call.TheVariants as calls

-- one record that fits
one_fits : (d e : Durable) (entry : PlainEntry) → replayed d (entry ∷ []) ≡ Some e → applied d entry ≡ Some e
one_fits d e entry fit = by_fit (applied d entry) fit
  where
    by_fit : (o : Option Durable) → option_and_then (λ (n : Durable). replayed n []) o ≡ Some e → o ≡ Some e
    by_fit None fit = absurd (false≢true (ap is_some fit))
    by_fit (Some n) fit = fit

-- a rollback is committed in the epoch in which it was begun
undone_epoch : (d e : Durable) (epoch : ℕ) (answers : List Answered) (names : Option NamesView) → after_undoing d epoch answers names ≡ Some e → e.epoch ≡ d.epoch
undone_epoch d e epoch answers None fit = absurd (false≢true (ap is_some fit))
undone_epoch d e epoch answers (Some names) fit =
    ap (λ (z : Durable). z.epoch) (sym (fits_gives (is_rolling d.phase && ((epoch == d.epoch) && are_answers (prepared_view d) (fin.entries names.refs) answers)) (rolled_back d answers names) e fit).1)

committed_epoch : (d e : Durable) (epoch : ℕ) (answers : List Answered) → applied d (RollbackCommit epoch answers) ≡ Some e → e.epoch ≡ d.epoch
unfolding applied
committed_epoch d e epoch answers fit = undone_epoch d e epoch answers (all_undone d.inverses d.names) fit

module _ (config : Config) (s : State) (req : ReqId) (moment : Moment) (epoch : ℕ) where
  abbrev IsInEpoch : Turn → Type 0
  IsInEpoch t = OneSays req (Ok (says.Epoch epoch)) t.sent → replayed s.durable t.records ≡ Some t.after.durable → t.after.durable.epoch ≡ s.durable.epoch

  pick : (b : Bool) (t u : Turn) → IsInEpoch t → IsInEpoch u → IsInEpoch (if b then t else u)
  pick true t u x y = x
  pick false t u x y = y

  refused_in : (refusal : Refusal) → IsInEpoch (refused s req refusal)
  refused_in refusal said fit = no_answer req refusal (says.Epoch epoch) said

  abbrev told : NamesView → List Answered
  told names = answers_for (prepared_view s.durable) (told_of s) (fin.entries names.refs)

  abbrev commit_turn : NamesView → Turn
  commit_turn names = turned s (accepted_plan s req (RollbackCommit s.durable.epoch (told names) ∷ []) (changes.RolledBack ∷ []) [] s.durable.epoch)

  commit_made : (names : NamesView) → IsInEpoch (commit_turn names)
  commit_made names said fit = committed_epoch s.durable (commit_turn names).after.durable s.durable.epoch (told names) (one_fits s.durable (commit_turn names).after.durable (RollbackCommit s.durable.epoch (told names)) fit)

  commit_lacking : (names : NamesView) (lacking : Option ℕ) → IsInEpoch (commit_if s req names lacking)
  commit_lacking names (Some chunk) = refused_in (refusals.Unrestored chunk)
  commit_lacking names None = pick (fits s.log (commit_turn names).records) (commit_turn names) (refused s req refusals.Full) (commit_made names) (refused_in refusals.Full)

  commit_names : (names : Option NamesView) → IsInEpoch (commit_on s req names)
  commit_names None = refused_in refusals.BadLine
  commit_names (Some names) = commit_lacking names (unrestored (prepared_view s.durable) (told_of s) (fin.entries names.refs))

  commit_in : (o : Option Refusal) → IsInEpoch (called_unless config s req moment calls.RollbackCommit o)
  commit_in None = pick (is_rolling s.durable.phase) (commit_on s req (all_undone s.durable.inverses s.durable.names)) (refused s req refusals.NotUpgrading) (commit_names (all_undone s.durable.inverses s.durable.names)) (refused_in refusals.NotUpgrading)
  commit_in (Some refusal) = refused_in refusal

-- ---- what is told then

both_hold : (a b : Bool) → (a && b) ≡ true → b ≡ true
both_hold true b is = is
both_hold false b is = absurd (false≢true is)

upgrade_told : (phase : Durable_phase) → is_upgrade phase ≡ true → told_phase false phase ≡ phases.Upgrade
upgrade_told Ordinary is = absurd (false≢true is)
upgrade_told Upgrade is = refl
upgrade_told Rolling is = absurd (false≢true is)

ordinary_told : (phase : Durable_phase) → is_ordinary phase ≡ true → told_phase false phase ≡ phases.Ordinary
ordinary_told Ordinary is = refl
ordinary_told Upgrade is = absurd (false≢true is)
ordinary_told Rolling is = absurd (false≢true is)

-- an upgrade stands after the commit of a prepare
abbrev pub phase_of : Call → Phase
phase_of calls.PrepareCommit = phases.Upgrade
phase_of call = phases.Ordinary

abbrev pub IsTold : Durable → ℕ → Phase → Type 0
IsTold d epoch phase = (d.epoch ≡ epoch) × (told_phase false d.phase ≡ phase)

pub commit_told : (config : Config) (s : State) (req : ReqId) (moment : Moment) (epoch : ℕ) (call : Call) → is_halt call ≡ true → OneSays req (Ok (says.Epoch epoch)) (new_call config s req moment call).sent
    → replayed s.durable (new_call config s req moment call).records ≡ Some (new_call config s req moment call).after.durable → IsTold (new_call config s req moment call).after.durable epoch (phase_of call)
commit_told config s req moment epoch calls.PrepareCommit halt said fit =
    let after : Durable = (new_call config s req moment calls.PrepareCommit).after.durable in
    let so = prepare_so config s req moment epoch (refused_before s req calls.PrepareCommit) said fit in (so.begins, upgrade_told after.phase (both_hold (is_ordinary s.durable.phase) (is_upgrade after.phase) so.accepted))
commit_told config s req moment epoch calls.RollbackCommit halt said fit =
    let after : Durable = (new_call config s req moment calls.RollbackCommit).after.durable in
    let so = commit_so config s req moment epoch (refused_before s req calls.RollbackCommit) said fit in (
      commit_in config s req moment epoch (refused_before s req calls.RollbackCommit) said fit ∙ so.within,
      ordinary_told after.phase (both_hold (is_rolling s.durable.phase) (is_ordinary after.phase) so.rolls),
    )
commit_told config s req moment epoch call halt said fit = absurd (false≢true halt)
