use Rattle.std.proofs.Common.{rules}
use Rattle.gs_lease.specs.declared.view.Purpose.TheVariants as purposes
use Rattle.gs_master_spec.specs.Beginning.{all_begun, begun}
use Rattle.gs_master.specs.inner.Turns.{WhyNotTurned, state_at}
use Rattle.gs_master.proofs.Composing.{item_further, item_refused, none_left}
use Rattle.gs_master.proofs.Entered.{goes_back_on}
use Rattle.gs_master.proofs.event.Event.begin_all.Goals as goal

pub returns-in_err-begin-clause-steps : goal.returns-in_err-begin-clause-steps
returns-in_err-begin-clause-steps c =
    let why : WhyNotTurned (all_begun (state_at c.args.self.now) c.args.chunks.now purposes.Quiet c.args.call) c.args.self.now c.in_err-begin.field-0.0 =
    item_refused (λ chunk next. begun next chunk purposes.Quiet c.args.call) _ _ c.loop-chunk.self _ _ c.chunk-item.result _ c.loop-chunk-test.true c.chunk-item.is c.loop-chunk.invariant.rest c.in_err-begin.ensures.steps in
    search (rules, why)

pub loop-chunk-preserved : goal.loop-chunk-preserved
loop-chunk-preserved c = record {
  rest = item_further (λ chunk next. begun next chunk purposes.Quiet c.args.call) _ _ c.loop-chunk.self c.begin.new.self _ _ c.chunk-item.result c.loop-chunk-test.true c.chunk-item.is c.loop-chunk.invariant.rest c.in_ok-begin.ensures.steps;
  back = goes_back_on _ _ _ c.loop-chunk.invariant.back c.begin.ensures.back;
}

pub returns-clause-steps : goal.returns-clause-steps
returns-clause-steps c = none_left (λ chunk next. begun next chunk purposes.Quiet c.args.call) _ _ _ _ _ c.loop-chunk-test.false c.loop-chunk.invariant.rest

pub returns-in_err-begin-clause-back : goal.returns-in_err-begin-clause-back
returns-in_err-begin-clause-back c = goes_back_on _ _ _ c.loop-chunk.invariant.back c.begin.ensures.back
