use Rattle.std.proofs.Common.{◌≡◌, ◌∙◌, true, false, ap, length, map, rules, subst, sym}
use Rattle.std.specs.List.{list_any}
use Rattle.gs_base.specs.declared.refusal.Refusal.TheVariants as refusals
use Rattle.gs_msg.specs.declared.answer.Answer.{Answer}
use Rattle.gs_msg.specs.declared.answer.Answer.TheVariants as answers
use Rattle.gs_master_record.specs.Plain.{plain}
use Rattle.gs_master_spec.specs.Applied.{is_whole_entry}
use Rattle.gs_master_spec.specs.Calls.{answered_with}
use Rattle.gs_master_state.specs.inner.Plans.{plan_of}
use Rattle.gs_master_spec.specs.State.{all_ended_by, fits}
use Rattle.gs_master.specs.inner.Turns.{ComesWithOthers, IsTurned, EventSteps, WhyNotTurned, state_at}
use Rattle.gs_master_spec.specs.Working.{scanned, waiting_for}
use Rattle.gs_master.proofs.Entered.{goes_back_on}
use Rattle.gs_master.proofs.Sweeps.{answered_last, ends_refused, records_refused, scan_together, without_room}
use Rattle.gs_master.proofs.Together.{no_checkpoint}
use Rattle.gs_master.proofs.event.Event.sweep.Goals as goal

pub fits-requires : goal.fits-requires
fits-requires c =
    subst (λ records. list_any is_whole_entry (map plain records) ≡ false) (sym c.deref-2.ensures.value)
    (no_checkpoint (map plain c.in_ok-plan.plan.records.items) (subst ComesWithOthers (sym c.in_ok-plan.ensures) (scan_together c.args.scan.removed.items c.args.scan.forgotten.items)).records)

pub carry_out-requires-clause-together : goal.carry_out-requires-clause-together
carry_out-requires-clause-together c = subst ComesWithOthers (sym c.in_ok-plan.ensures) (scan_together c.args.scan.removed.items c.args.scan.forgotten.items)

pub returns-then-not-branch-clause-steps : goal.returns-then-not-branch-clause-steps
returns-then-not-branch-clause-steps c =
    let s = state_at c.args.self.now in
    let made = plan_of c.in_ok-plan.plan in
    let tested : c.in_ok-fits.field-0 ≡ false = search rules in
    let none : fits s.log made.records ≡ false = ap (λ records. fits s.log (map plain records)) (sym c.deref-2.ensures.value) ∙ sym c.in_ok-fits.ensures ∙ tested in
    without_room s c.args.req c.args.scan.removed.items c.args.scan.forgotten.items made c.in_ok-plan.ensures none c.args.self.now c.refuse.new.self c.refuse.result c.refuse.ensures.steps

pub returns-in_err-carry_out-clause-steps : goal.returns-in_err-carry_out-clause-steps
returns-in_err-carry_out-clause-steps c =
    let s = state_at c.args.self.now in
    let made = plan_of c.in_ok-plan.plan in
    let tested : c.in_ok-fits.field-0 ≡ true = search rules in
    let fit : fits s.log made.records ≡ true = ap (λ records. fits s.log (map plain records)) (sym c.deref-2.ensures.value) ∙ sym c.in_ok-fits.ensures ∙ tested in
    let why : WhyNotTurned (scanned s c.args.req c.args.scan.removed.items c.args.scan.forgotten.items) c.args.self.now c.in_err-carry_out.field-0.0 =
    records_refused s c.args.req c.args.scan.removed.items c.args.scan.forgotten.items made c.in_ok-plan.ensures fit c.args.self.now c.in_err-carry_out.field-0.0 c.in_err-carry_out.ensures.steps in
    search (rules, why)

pub returns-in_err-end_all_by-clause-steps : goal.returns-in_err-end_all_by-clause-steps
returns-in_err-end_all_by-clause-steps c =
    let s = state_at c.args.self.now in
    let mid = c.carry_out.new.self in
    let forgotten = c.args.scan.forgotten.items in
    let made = plan_of c.in_ok-plan.plan in
    let e = c.in_err-end_all_by.field-0.0 in
    let tested : c.in_ok-fits.field-0 ≡ true = search rules in
    let fit : fits s.log made.records ≡ true = ap (λ records. fits s.log (map plain records)) (sym c.deref-2.ensures.value) ∙ sym c.in_ok-fits.ensures ∙ tested in
    let reqs : c.deref-3.result.now ≡ waiting_for s forgotten = c.deref-3.ensures.value ∙ c.in_ok-requests.ensures ∙ (λ i. waiting_for (c.standing.ensures i) (c.deref.ensures.value i)) in
    let ended = subst (λ calls. WhyNotTurned (all_ended_by (state_at mid) calls refusals.NoReplica) mid e) reqs c.in_err-end_all_by.ensures.steps in
    let why : WhyNotTurned (scanned s c.args.req c.args.scan.removed.items forgotten) c.args.self.now e =
    ends_refused s c.args.req c.args.scan.removed.items forgotten made c.in_ok-plan.ensures fit c.args.self.now mid e c.in_ok-carry_out.ensures.steps ended in
    search (rules, why)

pub returns-in_err-end_all_by-clause-back : goal.returns-in_err-end_all_by-clause-back
returns-in_err-end_all_by-clause-back c = goes_back_on _ _ _ c.carry_out.ensures.back c.end_all_by.ensures.back

pub returns-clause-steps : goal.returns-clause-steps
returns-clause-steps c =
    let s = state_at c.args.self.now in
    let mid = c.carry_out.new.self in
    let last = c.end_all_by.new.self in
    let removed = c.args.scan.removed.items in
    let forgotten = c.args.scan.forgotten.items in
    let made = plan_of c.in_ok-plan.plan in
    let tested : c.in_ok-fits.field-0 ≡ true = search rules in
    let fit : fits s.log made.records ≡ true = ap (λ records. fits s.log (map plain records)) (sym c.deref-2.ensures.value) ∙ sym c.in_ok-fits.ensures ∙ tested in
    let reqs : c.deref-3.result.now ≡ waiting_for s forgotten = c.deref-3.ensures.value ∙ c.in_ok-requests.ensures ∙ (λ i. waiting_for (c.standing.ensures i) (c.deref.ensures.value i)) in
    let ended = subst (λ calls. IsTurned (all_ended_by (state_at mid) calls refusals.NoReplica) mid last) reqs c.in_ok-end_all_by.ensures.steps in
    let many : c.len-removals.result ≡ length removed = search rules in
    let chunks : c.len-chunks.result ≡ length forgotten = search rules in
    let done : EventSteps (answered_with (state_at last) c.args.req (answers.Scanned (length removed) (length forgotten))) last c.answer.result c.answer.new.self =
    subst (λ (a : Answer). EventSteps (answered_with (state_at last) c.args.req a) last c.answer.result c.answer.new.self) (λ i. answers.Scanned (many i) (chunks i)) c.answer.ensures.steps in
    answered_last s c.args.req removed forgotten made c.in_ok-plan.ensures fit c.args.self.now mid last c.answer.new.self c.answer.result c.in_ok-carry_out.ensures.steps ended done

pub returns-clause-back : goal.returns-clause-back
returns-clause-back c = goes_back_on _ _ _ (goes_back_on _ _ _ c.carry_out.ensures.back c.end_all_by.ensures.back) c.answer.ensures.back
