use Rattle.std.proofs.Common.{rules}
use Rattle.gs_master_spec.specs.Handling.{pressed}
use Rattle.gs_master_spec.specs.State.{for_each}
use Rattle.gs_master.specs.inner.Turns.{WhyNotTurned, state_at}
use Rattle.gs_master.proofs.Composing.{item_further, item_refused, none_left}
use Rattle.gs_master.proofs.Entered.{goes_back_on}
use Rattle.gs_master.proofs.event.Event.press_each.Goals as goal

pub returns-in_err-press-clause-steps : goal.returns-in_err-press-clause-steps
returns-in_err-press-clause-steps c =
    let why : WhyNotTurned (for_each (state_at c.args.self.now) c.args.proposals.now (pressed c.args.moment)) c.args.self.now c.in_err-press.field-0.0 =
    item_refused (pressed c.args.moment) _ _ c.loop-proposal.self _ _ c.proposal-item.result _ c.loop-proposal-test.true c.proposal-item.is c.loop-proposal.invariant.rest c.in_err-press.ensures.steps in
    search (rules, why)

pub returns-in_err-press-clause-back : goal.returns-in_err-press-clause-back
returns-in_err-press-clause-back c = goes_back_on _ _ _ c.loop-proposal.invariant.back c.press.ensures.back

pub loop-proposal-preserved : goal.loop-proposal-preserved
loop-proposal-preserved c = record {
  rest = item_further (pressed c.args.moment) _ _ c.loop-proposal.self c.press.new.self _ _ c.proposal-item.result c.loop-proposal-test.true c.proposal-item.is c.loop-proposal.invariant.rest c.in_ok-press.ensures.steps;
  back = goes_back_on _ _ _ c.loop-proposal.invariant.back c.press.ensures.back;
}

pub returns-clause-steps : goal.returns-clause-steps
returns-clause-steps c = none_left (pressed c.args.moment) _ _ _ _ _ c.loop-proposal-test.false c.loop-proposal.invariant.rest
