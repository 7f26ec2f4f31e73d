use Rattle.std.proofs.Common.{rules}
use Rattle.gs_master_spec.specs.Settling.{all_go_on, goes_on}
use Rattle.gs_master.specs.inner.Turns.{WhyNotTurned, state_at}
use Rattle.gs_master_spec.specs.declared.pending.Pending.{Pending}
use Rattle.gs_master.proofs.Composing.{item_further, item_refused, none_left}
use Rattle.gs_master.proofs.Entered.{goes_back_on}
use Rattle.gs_master.proofs.event.Event.all_go_on.Goals as goal

pub returns-in_err-go_on-clause-steps : goal.returns-in_err-go_on-clause-steps
returns-in_err-go_on-clause-steps c =
    let view = c.args.view.now in
    let why : WhyNotTurned (all_go_on view c.args.calls.now (state_at c.args.self.now)) c.args.self.now c.in_err-go_on.field-0.0 =
    item_refused (λ (p : Pending) next. goes_on next p.req view p.waits) _ _ _ _ _ c.call-item.result _ c.loop-call-test.true c.call-item.is c.loop-call.invariant.rest c.in_err-go_on.ensures.steps in
    search (rules, why)

pub loop-call-preserved : goal.loop-call-preserved
loop-call-preserved c = record {
  rest = item_further (λ (p : Pending) next. goes_on next p.req c.args.view.now p.waits) _ _ _ _ _ _ c.call-item.result c.loop-call-test.true c.call-item.is c.loop-call.invariant.rest c.in_ok-go_on.ensures.steps;
  back = goes_back_on _ _ _ c.loop-call.invariant.back c.go_on.ensures.back;
}

pub returns-clause-steps : goal.returns-clause-steps
returns-clause-steps c = none_left (λ (p : Pending) next. goes_on next p.req c.args.view.now p.waits) _ _ _ _ _ c.loop-call-test.false c.loop-call.invariant.rest

pub returns-in_err-go_on-clause-back : goal.returns-in_err-go_on-clause-back
returns-in_err-go_on-clause-back c = goes_back_on _ _ _ c.loop-call.invariant.back c.go_on.ensures.back
