use Rattle.std.proofs.Common.{◌≡◌, ◌∙◌, true, ap, map, rules, subst, sym}
use Rattle.gs_base.specs.declared.refusal.Refusal.TheVariants as refusals
use Rattle.gs_master_record.specs.Plain.{plain}
use Rattle.gs_master_spec.specs.Chunks.{settling}
use Rattle.gs_master_spec.specs.Durable.{prepared_view}
use Rattle.gs_master_state.specs.inner.Plans.{plan_of}
use Rattle.gs_master_spec.specs.Settling.{all_go_on, all_refused, concerned, settle_plan}
use Rattle.gs_master_spec.specs.State.{Plan, State, fits, turned}
use Rattle.gs_master.specs.inner.Turns.{EventSteps, state_at}
use Rattle.gs_master.proofs.Composing.{steps_and, why_not_and}
use Rattle.gs_master.proofs.Ends.{refused_with_room, steps_with_room}
use Rattle.gs_master.proofs.Entered.{goes_back_on}
use Rattle.gs_master.proofs.event.Event.settle_on.Goals as goal

pub returns-in_err-carry_out-clause-steps : goal.returns-in_err-carry_out-clause-steps
returns-in_err-carry_out-clause-steps c =
    let s = state_at c.args.self.now in
    let view = c.args.view.now in
    let asking = c.args.asking.now in
    let records = settling s.durable.phase (prepared_view s.durable c.args.chunk) c.args.carried c.args.chunk asking view in
    let plan = settle_plan records c.args.chunk view in
    let next = all_go_on view (concerned s c.args.chunk asking.call) in
    let same : plan_of c.in_ok-plan.plan ≡ plan =
    c.in_ok-plan.ensures ∙ ap (λ (x : State). settle_plan (settling x.durable.phase (prepared_view x.durable c.args.chunk) c.args.carried c.args.chunk asking view) c.args.chunk view) c.standing.ensures in
    let tested : c.in_ok-fits.field-0 ≡ true = search rules in
    let room : fits s.log records ≡ true =
    ap (λ (p : Plan). fits s.log p.records) (sym same) ∙ ap (λ more. fits s.log (map plain more)) (sym c.deref.ensures.value) ∙ sym c.in_ok-fits.ensures ∙ tested in
    let why = refused_with_room s (plan_of c.in_ok-plan.plan) plan next (all_refused s c.args.chunk asking.call refusals.Full) same room c.args.self.now _ (why_not_and (turned s (plan_of c.in_ok-plan.plan)) next c.args.self.now _ c.in_err-carry_out.ensures.steps) in
    search (rules, why)

pub returns-clause-steps : goal.returns-clause-steps
returns-clause-steps c =
    let s = state_at c.args.self.now in
    let view = c.args.view.now in
    let asking = c.args.asking.now in
    let records = settling s.durable.phase (prepared_view s.durable c.args.chunk) c.args.carried c.args.chunk asking view in
    let plan = settle_plan records c.args.chunk view in
    let next = all_go_on view (concerned s c.args.chunk asking.call) in
    let same : plan_of c.in_ok-plan.plan ≡ plan =
    c.in_ok-plan.ensures ∙ ap (λ (x : State). settle_plan (settling x.durable.phase (prepared_view x.durable c.args.chunk) c.args.carried c.args.chunk asking view) c.args.chunk view) c.standing.ensures in
    let tested : c.in_ok-fits.field-0 ≡ true = search rules in
    let room : fits s.log records ≡ true =
    ap (λ (p : Plan). fits s.log p.records) (sym same) ∙ ap (λ more. fits s.log (map plain more)) (sym c.deref.ensures.value) ∙ sym c.in_ok-fits.ensures ∙ tested in
    let calls : c.deref-2.result.now ≡ concerned s c.args.chunk asking.call = c.deref-2.ensures.value ∙ c.in_ok-calls.ensures ∙ ap (λ x. concerned x c.args.chunk asking.call) c.standing-2.ensures in
    let then : EventSteps (next (state_at c.carry_out.new.self)) c.carry_out.new.self c.all_go_on.result c.all_go_on.new.self =
    subst (λ those. EventSteps (all_go_on view those (state_at c.carry_out.new.self)) c.carry_out.new.self c.all_go_on.result c.all_go_on.new.self) calls c.all_go_on.ensures.steps in
    steps_with_room s (plan_of c.in_ok-plan.plan) plan next (all_refused s c.args.chunk asking.call refusals.Full) same room c.args.self.now _ _
    (steps_and (turned s (plan_of c.in_ok-plan.plan)) next c.args.self.now c.carry_out.new.self _ _ c.in_ok-carry_out.ensures.steps then)

pub returns-clause-back : goal.returns-clause-back
returns-clause-back c = goes_back_on _ _ _ c.carry_out.ensures.back c.all_go_on.ensures.back
