-- What a prepare adds to the journal.
use Rattle.std.proofs.Common.{◌≡◌, ◌⊎◌, inl, inr, ◌+◌, Bool, true, false, ◌&&◌, [], ◌∷◌, refl, ap, subst, sym}
use Rattle.std.specs.Prelude.{Option, Some, None, is_some, if◌then◌else◌}
use Rattle.std.proofs.lemmas.Bool.{false≢true}
use Rattle.gs_base.specs.declared.config.Config.{Config}
use Rattle.gs_base.specs.declared.numbers.Moment.{Moment}
use Rattle.gs_base.specs.declared.numbers.ReqId.{ReqId}
use Rattle.gs_base.specs.declared.refusal.Refusal.{Refusal}
use Rattle.gs_base.specs.declared.refusal.Refusal.TheVariants as refusals
use Rattle.gs_msg.specs.declared.call.Call.TheVariants as calls
use Rattle.gs_master_record.specs.Plain.{Said, Prepare}
use Rattle.gs_base.specs.declared.epoch.EpochEnd.TheVariants as ends
use Rattle.gs_master_spec.specs.Calls.{refused_before}
use Rattle.gs_master_spec.specs.Handling.{called_unless}
use Rattle.gs_laws_master.specs.Promises.{AddsOne, PreparesByOneRecord}
use Rattle.gs_master_spec.specs.State.{State, Plan, Turn, turned, fits, refused, first_of, keeps_refusal}
use Rattle.gs_master_spec.specs.Upgrades.{prepare_commit, unless, commit_tests, accepted_plan, all_unquiet, is_last_epoch, chunk_count, tell_all}
use Rattle.gs_master_spec.specs.declared.change.Change.TheVariants as changes

refusal_is : {a b : Refusal} → ◌≡◌ {A = Option Refusal} (Some a) (Some b) → a ≡ b
refusal_is h = cc

none_or_one : (b : Bool) (req : ReqId) (refusal : Refusal) → ((if b then Said req refusal ∷ [] else []) ≡ []) ⊎ ((if b then Said req refusal ∷ [] else []) ≡ Said req refusal ∷ [])
none_or_one true req refusal = inr refl
none_or_one false req refusal = inl refl

module _ (s : State) (req : ReqId) (moment : Moment) where
  refused_one : (refusal : Refusal) → AddsOne s req moment (refused s req refusal)
  refused_one refusal = record {
    accepted = λ e. absurd (false≢true (sym (ap is_some e)));
    refused = λ other e. subst (λ r. ((refused s req refusal).records ≡ []) ⊎ ((refused s req refusal).records ≡ Said req r ∷ [])) (refusal_is e)
        (none_or_one (keeps_refusal s req refusal && fits s.log (Said req refusal ∷ [])) req refusal);
  }

  either_one : (b : Bool) (t u : Turn) → AddsOne s req moment t → AddsOne s req moment u → AddsOne s req moment (if b then t else u)
  either_one true t u a b = a
  either_one false t u a b = b

  unless_one : (refusal : Option Refusal) (t : Turn) → AddsOne s req moment t → AddsOne s req moment (unless refusal s req t)
  unless_one None t a = either_one (fits s.log t.records) t (refused s req refusals.Full) a (refused_one refusals.Full)
  unless_one (Some refusal) t a = refused_one refusal

  prepared_one : (config : Config) → AddsOne s req moment (prepare_commit config s req moment)
  prepared_one config =
      let plan : Plan = accepted_plan s req (Prepare (s.durable.epoch + 1) moment.0 (chunk_count s) ∷ []) (changes.Prepare false ∷ []) (tell_all config (s.durable.epoch + 1) ends.Prepare) (s.durable.epoch + 1) in
      unless_one (first_of (commit_tests s.durable.phase s.volatile.is_preparing (all_unquiet s) (is_last_epoch s.durable))) (turned s plan)
      (record { accepted = λ e. (refl, refl); refused = λ refusal e. absurd (false≢true (ap is_some e)) })

  called_one : (config : Config) (refusal : Option Refusal) → AddsOne s req moment (called_unless config s req moment calls.PrepareCommit refusal)
  called_one config None = prepared_one config
  called_one config (Some refusal) = refused_one refusal

pub prepares_by_one_record : PreparesByOneRecord
prepares_by_one_record config s req moment = called_one s req moment config (refused_before s req calls.PrepareCommit)
