use Rattle.std.proofs.Common.{◌≡◌, ◌∙◌, ◌+◌, [], None, true, false, ap, map, refl, rules, subst, sym}
use Rattle.std.specs.List.{list_any}
use Rattle.gs_base.specs.declared.epoch.EpochEnd.TheVariants as ends
use Rattle.gs_base.specs.declared.refusal.Refusal.TheVariants as refusals
use Rattle.gs_master_record.specs.Plain.{plain}
use Rattle.gs_master_spec.specs.Applied.{is_whole_entry}
use Rattle.gs_master_state.specs.inner.Plans.{plan_of}
use Rattle.gs_master_spec.specs.Settling.{requests_of}
use Rattle.gs_master_spec.specs.State.{Plan, Turn, all_ended_by, first_of, fits, turned}
use Rattle.gs_master.specs.inner.Turns.{ComesWithOthers, IsTurned, EventSteps, WhyNotTurned, state_at}
use Rattle.gs_master_spec.specs.Upgrades.{accepted_plan, end_tests, is_last_epoch, rollback_begin, tell_all}
use Rattle.gs_master.proofs.Accepting.{accepted_together}
use Rattle.gs_master.proofs.Entered.{goes_back_on}
use Rattle.gs_master.proofs.Sparing.{all_rolled, first_refused, rollback_by_room, rollback_plan, rollback_together, rollback_told, second_refused, third_steps}
use Rattle.gs_master.proofs.Together.{no_checkpoint}
use Rattle.gs_master.proofs.event.Event.rollback_begin.Goals as goal

pub fits-requires : goal.fits-requires
fits-requires c =
    let s = state_at c.args.self.now in
    let same : plan_of c.in_ok-begun.begun ≡ rollback_plan s = c.in_ok-begun.ensures ∙ ap rollback_plan c.standing-2.ensures in
    subst (λ records. list_any is_whole_entry (map plain records) ≡ false) (sym c.deref.ensures.value)
    (no_checkpoint (map plain c.in_ok-begun.begun.records.items) (subst ComesWithOthers (sym same) (rollback_together s)).records)

pub carry_out-requires-clause-together : goal.carry_out-requires-clause-together
carry_out-requires-clause-together c =
    let s = state_at c.args.self.now in
    let same : plan_of c.in_ok-begun.begun ≡ rollback_plan s = c.in_ok-begun.ensures ∙ ap rollback_plan c.standing-2.ensures in
    subst ComesWithOthers (sym same) (rollback_together s)

pub returns-then-not-branch-clause-steps : goal.returns-then-not-branch-clause-steps
returns-then-not-branch-clause-steps c =
    let s = state_at c.args.self.now in
    let config = c.args.config.now in
    let made = plan_of c.in_ok-begun.begun in
    let same : made ≡ rollback_plan s = c.in_ok-begun.ensures ∙ ap rollback_plan c.standing-2.ensures in
    let judged : None ≡ first_of (end_tests s.durable.phase (is_last_epoch s.durable)) = sym c.in_default.is ∙ c.refusal_of_end.ensures.judged in
    let tested : c.in_ok-fits.field-0 ≡ false = search rules in
    let none : fits s.log made.records ≡ false = ap (λ records. fits s.log (map plain records)) (sym c.deref.ensures.value) ∙ sym c.in_ok-fits.ensures ∙ tested in
    let by_room = rollback_by_room config s c.args.req made same judged false none in
    subst (λ (t : Turn). EventSteps t c.args.self.now c.refuse-then-not-branch.result c.refuse-then-not-branch.new.self) (sym by_room) c.refuse-then-not-branch.ensures.steps

pub returns-in_err-carry_out-clause-steps : goal.returns-in_err-carry_out-clause-steps
returns-in_err-carry_out-clause-steps c =
    let s = state_at c.args.self.now in
    let config = c.args.config.now in
    let e = c.in_err-carry_out.field-0.0 in
    let made = plan_of c.in_ok-begun.begun in
    let same : made ≡ rollback_plan s = c.in_ok-begun.ensures ∙ ap rollback_plan c.standing-2.ensures in
    let judged : None ≡ first_of (end_tests s.durable.phase (is_last_epoch s.durable)) = sym c.in_default.is ∙ c.refusal_of_end.ensures.judged in
    let tested : c.in_ok-fits.field-0 ≡ true = search rules in
    let fit : fits s.log made.records ≡ true = ap (λ records. fits s.log (map plain records)) (sym c.deref.ensures.value) ∙ sym c.in_ok-fits.ensures ∙ tested in
    let why : WhyNotTurned (rollback_begin config s c.args.req) c.args.self.now e =
    subst (λ (t : Turn). WhyNotTurned t c.args.self.now e) (sym (rollback_by_room config s c.args.req made same judged true fit))
    (first_refused (turned s made) (all_rolled s) (rollback_told config s c.args.req) c.args.self.now e c.in_err-carry_out.ensures.steps) in
    search (rules, why)

pub returns-in_err-end_all_by-clause-steps : goal.returns-in_err-end_all_by-clause-steps
returns-in_err-end_all_by-clause-steps c =
    let s = state_at c.args.self.now in
    let mid = c.carry_out.new.self in
    let config = c.args.config.now in
    let e = c.in_err-end_all_by.field-0.0 in
    let made = plan_of c.in_ok-begun.begun in
    let same : made ≡ rollback_plan s = c.in_ok-begun.ensures ∙ ap rollback_plan c.standing-2.ensures in
    let judged : None ≡ first_of (end_tests s.durable.phase (is_last_epoch s.durable)) = sym c.in_default.is ∙ c.refusal_of_end.ensures.judged in
    let tested : c.in_ok-fits.field-0 ≡ true = search rules in
    let fit : fits s.log made.records ≡ true = ap (λ records. fits s.log (map plain records)) (sym c.deref.ensures.value) ∙ sym c.in_ok-fits.ensures ∙ tested in
    let reqs : c.deref-2.result.now ≡ requests_of s.volatile.pending = c.deref-2.ensures.value ∙ c.in_ok-requests.ensures ∙ ap (λ t. requests_of t.volatile.pending) c.standing.ensures in
    let ended = subst (λ calls. WhyNotTurned (all_ended_by (state_at mid) calls refusals.RollingBack) mid e) reqs c.in_err-end_all_by.ensures.steps in
    let why : WhyNotTurned (rollback_begin config s c.args.req) c.args.self.now e =
    subst (λ (t : Turn). WhyNotTurned t c.args.self.now e) (sym (rollback_by_room config s c.args.req made same judged true fit))
    (second_refused (turned s made) (all_rolled s) (rollback_told config s c.args.req) c.args.self.now mid e c.in_ok-carry_out.ensures.steps ended) in
    search (rules, why)

pub returns-in_err-end_all_by-clause-back : goal.returns-in_err-end_all_by-clause-back
returns-in_err-end_all_by-clause-back c = goes_back_on _ _ _ c.carry_out.ensures.back c.end_all_by.ensures.back

pub carry_out-requires-2-clause-together : goal.carry_out-requires-2-clause-together
carry_out-requires-2-clause-together c =
    let config = c.args.config.now in
    let s = state_at c.args.self.now in
    let behind = state_at c.end_all_by.new.self in
    let sent = tell_all config (s.durable.epoch + 1) ends.Rollback in
    subst ComesWithOthers (sym (c.in_ok-told.ensures ∙ ap (λ t. accepted_plan t c.args.req [] [] sent (s.durable.epoch + 1)) c.standing-3.ensures))
    (accepted_together behind c.args.req [] [] sent (s.durable.epoch + 1) refl)

pub returns-clause-steps : goal.returns-clause-steps
returns-clause-steps c =
    let s = state_at c.args.self.now in
    let mid = c.carry_out.new.self in
    let behind = c.end_all_by.new.self in
    let last = c.carry_out-2.new.self in
    let config = c.args.config.now in
    let made = plan_of c.in_ok-begun.begun in
    let same : made ≡ rollback_plan s = c.in_ok-begun.ensures ∙ ap rollback_plan c.standing-2.ensures in
    let judged : None ≡ first_of (end_tests s.durable.phase (is_last_epoch s.durable)) = sym c.in_default.is ∙ c.refusal_of_end.ensures.judged in
    let tested : c.in_ok-fits.field-0 ≡ true = search rules in
    let fit : fits s.log made.records ≡ true = ap (λ records. fits s.log (map plain records)) (sym c.deref.ensures.value) ∙ sym c.in_ok-fits.ensures ∙ tested in
    let reqs : c.deref-2.result.now ≡ requests_of s.volatile.pending = c.deref-2.ensures.value ∙ c.in_ok-requests.ensures ∙ ap (λ t. requests_of t.volatile.pending) c.standing.ensures in
    let ended = subst (λ calls. IsTurned (all_ended_by (state_at mid) calls refusals.RollingBack) mid behind) reqs c.in_ok-end_all_by.ensures.steps in
    let sent = tell_all config (s.durable.epoch + 1) ends.Rollback in
    let told : plan_of c.in_ok-told.told ≡ accepted_plan (state_at behind) c.args.req [] [] sent (s.durable.epoch + 1) =
    c.in_ok-told.ensures ∙ ap (λ t. accepted_plan t c.args.req [] [] sent (s.durable.epoch + 1)) c.standing-3.ensures in
    let done : EventSteps (rollback_told config s c.args.req (state_at behind)) behind c.carry_out-2.result last =
    subst (λ (p : Plan). EventSteps (turned (state_at behind) p) behind c.carry_out-2.result last) told c.carry_out-2.ensures.steps in
    subst (λ (t : Turn). EventSteps t c.args.self.now c.carry_out-2.result last) (sym (rollback_by_room config s c.args.req made same judged true fit))
    (third_steps (turned s made) (all_rolled s) (rollback_told config s c.args.req) c.args.self.now mid behind last c.carry_out-2.result c.in_ok-carry_out.ensures.steps ended done)

pub returns-clause-back : goal.returns-clause-back
returns-clause-back c = goes_back_on _ _ _ (goes_back_on _ _ _ c.carry_out.ensures.back c.end_all_by.ensures.back) c.carry_out-2.ensures.back

pub returns-in_err-told-clause-back : goal.returns-in_err-told-clause-back
returns-in_err-told-clause-back c = goes_back_on _ _ _ c.carry_out.ensures.back c.end_all_by.ensures.back
