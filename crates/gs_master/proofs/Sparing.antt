-- Turns that refuse all calls that wait: what is said of these refusals leaves records only where there is room for them.
use Rattle.std.proofs.Common.{◌≡◌, ◌∙◌, ◌+◌, ◌*◌, ◌≤◌, Bool, true, List, [], ◌∷◌, ◌++◌, length, append-nil, None, Ok, Err, refl, ap, sym, subst}
use Rattle.std.specs.Prelude.{fold, nat_le, not, Result, if◌then◌else◌}
use Rattle.std.proofs.lemmas.List.Sums.{fold-append}
use Rattle.gs_base.specs.declared.config.Config.{Config}
use Rattle.gs_base.specs.declared.epoch.EpochEnd.TheVariants as ends
use Rattle.gs_base.specs.declared.numbers.ReqId.{ReqId}
use Rattle.gs_base.specs.declared.refusal.Refusal.{Refusal}
use Rattle.gs_base.specs.declared.refusal.Refusal.TheVariants as refusals
use Rattle.gs_lease.specs.declared.view.Purpose.TheVariants as purposes
use Rattle.gs_master_record.specs.Plain.{RollbackBegin}
use Rattle.gs_master_spec.specs.Beginning.{all_begun, has_versions}
use Rattle.gs_master.specs.inner.Events.{log_behind}
use Rattle.gs_master_spec.specs.Settling.{requests_of}
use Rattle.gs_master_spec.specs.State.{Plan, State, Turn, all_ended_by, and_then, done, ended_by, first_of, fits, refused, turned}
use Rattle.gs_master.specs.inner.StartingOver.{BeginsAt, StartsOver}
use Rattle.gs_master_state.specs.inner.TakingBack.{RoomForAll}
use Rattle.gs_master.specs.inner.Turns.{ComesWithOthers, IsTurned, IsUnderWay, EventSteps, WhyNotTurned, state_at}
use Rattle.gs_master_spec.specs.Upgrades.{accepted_plan, all_unquiet, begin_tests, end_tests, is_last_epoch, prepare_begin, rollback_begin, tell_all, unless}
use Rattle.gs_master_spec.specs.declared.change.Change.TheVariants as changes
use Rattle.gs_master.specs.declared.event.Event.{Event}
use Rattle.gs_master_state.specs.declared.log.Log.{Log as Journal_log}
use Rattle.gs_master.specs.declared.event.Beginning.{Beginning}
use Rattle.gs_master.proofs.Composing.{fits_both, logged, steps_and, why_not_and}
use Rattle.gs_master.proofs.Proposals.{proposals_fit}
use Rattle.gs_master.proofs.Sweeps.{all_fit, more_fit}

-- ---- three steps

module _ (t : Turn) (next last : State → Turn) (old : Event) where
  pub first_refused : (e : Refusal) → WhyNotTurned t old e → WhyNotTurned (and_then (and_then t next) last) old e
  first_refused e why = why_not_and (and_then t next) last old e (why_not_and t next old e why)

  pub second_refused : (mid : Event) (e : Refusal) → IsTurned t old mid → WhyNotTurned (next (state_at mid)) mid e → WhyNotTurned (and_then (and_then t next) last) old e
  second_refused mid e first why = why_not_and (and_then t next) last old e (steps_and t next old mid mid (Err e) first why)

  pub third_steps : (mid behind new : Event) (result : Result (Unit {0}) Refusal) → IsTurned t old mid → IsTurned (next (state_at mid)) mid behind → EventSteps (last (state_at behind)) behind result new
      → EventSteps (and_then (and_then t next) last) old result new
  third_steps mid behind new result first second steps = steps_and (and_then t next) last old behind new result (steps_and t next old mid behind (Ok tt) first second) steps

-- ---- a rollback that begins

abbrev pub rollback_plan : State → Plan
rollback_plan s = record { records = RollbackBegin (s.durable.epoch + 1) ∷ []; changes = []; sent = []; said = None }

abbrev pub all_rolled : State → State → Turn
all_rolled s next = all_ended_by next (requests_of s.volatile.pending) refusals.RollingBack

abbrev pub rollback_told : Config → State → ReqId → State → Turn
rollback_told config s req next = turned next (accepted_plan next req [] [] (tell_all config (s.durable.epoch + 1) ends.Rollback) (s.durable.epoch + 1))

abbrev pub rolls : Config → State → ReqId → Plan → Turn
rolls config s req plan = and_then (and_then (turned s plan) (all_rolled s)) (rollback_told config s req)

rolls_fit : (config : Config) (s : State) (req : ReqId) (plan : Plan) → fits s.log (rolls config s req plan).records ≡ fits s.log plan.records
rolls_fit config s req plan =
    let mid = done s plan in
    let more = (all_rolled s mid).records in
    ap (fits s.log) (append-nil (plan.records ++ more)) ∙ more_fit s.log mid.log plan.records more (logged s plan.records) (all_fit mid (requests_of s.volatile.pending) refusals.RollingBack)

module _ (config : Config) (s : State) (req : ReqId) (made : Plan) (same : made ≡ rollback_plan s) (judged : None ≡ first_of (end_tests s.durable.phase (is_last_epoch s.durable))) where
  pub rollback_by_room : (room : Bool) → fits s.log made.records ≡ room → rollback_begin config s req ≡ (if room then rolls config s req made else refused s req refusals.Full)
  rollback_by_room room is =
      ap (λ judged. unless judged s req (rolls config s req (rollback_plan s))) (sym judged)
      ∙ ap (λ b. if b then rolls config s req (rollback_plan s) else refused s req refusals.Full) (rolls_fit config s req (rollback_plan s) ∙ ap (λ (p : Plan). fits s.log p.records) (sym same) ∙ is)
      ∙ ap (λ p. if room then rolls config s req p else refused s req refusals.Full) (sym same)

pub rollback_together : (s : State) → ComesWithOthers (rollback_plan s)
rollback_together s = record { records = refl }

-- ---- an event that is begun anew is under way again

pub ready_again : (b : Beginning) (first here back : Event) → BeginsAt b first → StartsOver b here back → IsUnderWay first → IsUnderWay back
ready_again b first here back at over ready = record {
  room = subst (RoomForAll back.recorded) (sym over.begun.undos) tt;
  counted = subst (λ (log : Journal_log). log.records ≤ log.size) (sym (over.log ∙ at.log)) ready.counted;
}

-- ---- preparing that begins

abbrev pub all_given_up : State → Turn
all_given_up s = all_ended_by s (requests_of s.volatile.pending) refusals.Preparing

abbrev pub all_asked : State → State → Turn
all_asked s next = all_begun next (all_unquiet s) purposes.Quiet None

abbrev pub beginning_told : State → ReqId → State → Turn
beginning_told s req next = turned next (accepted_plan next req [] (changes.Prepare true ∷ []) [] s.durable.epoch)

abbrev pub begins : State → ReqId → Turn
begins s req = and_then (and_then (all_given_up s) (all_asked s)) (beginning_told s req)

-- what is recorded of refusals leaves the journal where it says
ended_log : (s : State) (reqs : List ReqId) (refusal : Refusal) → (all_ended_by s reqs refusal).after.log ≡ fold log_behind s.log (all_ended_by s reqs refusal).records
ended_log s [] refusal = refl
ended_log s (req ∷ reqs) refusal =
    let t = ended_by s req refusal in
    ended_log t.after reqs refusal ∙ ap (λ log. fold log_behind log (all_ended_by t.after reqs refusal).records) (logged s t.records) ∙ sym (fold-append log_behind s.log t.records (all_ended_by t.after reqs refusal).records)

begins_fit : (s : State) (req : ReqId) → fits s.log (begins s req).records ≡ nat_le ((all_given_up s).after.log.size + length (all_unquiet s) * 22) (all_given_up s).after.log.limit
begins_fit s req =
    let t = all_given_up s in
    let asked = all_asked s t.after in
    ap (fits s.log) (append-nil (t.records ++ asked.records)) ∙ sym (fits_both s.log t.after.log t.records asked.records (ended_log s (requests_of s.volatile.pending) refusals.Preparing))
    ∙ proposals_fit t.after (all_unquiet s) purposes.Quiet None

module _ (s : State) (req : ReqId) (judged : None ≡ first_of (begin_tests s.durable.phase s.volatile.is_preparing s.volatile.pending (not (has_versions s.durable (length (all_unquiet s)))))) where
  pub prepare_by_room : (room : Bool) → nat_le ((all_given_up s).after.log.size + length (all_unquiet s) * 22) (all_given_up s).after.log.limit ≡ room → prepare_begin s req ≡ (if room then begins s req else refused s req refusals.Full)
  prepare_by_room room is =
      ap (λ judged. unless judged s req (begins s req)) (sym judged) ∙ ap (λ b. if b then begins s req else refused s req refusals.Full) (begins_fit s req ∙ is)
