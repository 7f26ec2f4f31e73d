use Rattle.std.proofs.Common.{rules, subst}
use Rattle.gs_master_spec.specs.Hearing.{ask_plan, stepped}
use Rattle.gs_master_state.specs.inner.Plans.{plan_of}
use Rattle.gs_master_spec.specs.State.{State, and_then, turned}
use Rattle.gs_master.specs.inner.Turns.{EventSteps, WhyNotTurned, state_at}
use Rattle.gs_master.proofs.Composing.{steps_and, why_not_and}
use Rattle.gs_master.proofs.Entered.{goes_back_on}
use Rattle.gs_master.proofs.event.Event.hear.Goals as goal

pub returns-in_err-carry_out-clause-steps : goal.returns-in_err-carry_out-clause-steps
returns-in_err-carry_out-clause-steps c = λ known.
    let s = state_at c.args.self.now in
    let next = λ (x : State). stepped x c.args.chunk known c.args.asking.now c.args.carried c.args.moment c.args.step in
    let why : WhyNotTurned (and_then (turned s (ask_plan c.args.chunk c.args.asking.now)) next) c.args.self.now c.in_err-carry_out.field-0.0 =
    subst (λ p. WhyNotTurned (and_then (turned s p) next) c.args.self.now c.in_err-carry_out.field-0.0) c.in_ok-plan.ensures (why_not_and (turned s (plan_of c.in_ok-plan.plan)) next c.args.self.now _ c.in_err-carry_out.ensures.steps) in
    search (rules, why)

pub returns-clause-steps : goal.returns-clause-steps
returns-clause-steps c = λ known.
    let s = state_at c.args.self.now in
    let next = λ (x : State). stepped x c.args.chunk known c.args.asking.now c.args.carried c.args.moment c.args.step in
    subst (λ p. EventSteps (and_then (turned s p) next) c.args.self.now c.step.result c.step.new.self) c.in_ok-plan.ensures
    (steps_and (turned s (plan_of c.in_ok-plan.plan)) next c.args.self.now c.carry_out.new.self _ _ c.in_ok-carry_out.ensures.steps (c.step.ensures.steps known))

pub returns-clause-back : goal.returns-clause-back
returns-clause-back c = goes_back_on _ _ _ c.carry_out.ensures.back c.step.ensures.back
