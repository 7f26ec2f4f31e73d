use Rattle.std.proofs.Common.{get_or, rules, subst}
use Rattle.gs_base.specs.declared.numbers.ReqId.{ReqId}
use Rattle.gs_master_spec.specs.State.{all_ended_by, ended_by}
use Rattle.gs_master.specs.inner.Turns.{IsTurned, WhyNotTurned, state_at}
use Rattle.gs_master.proofs.Composing.{none_left, one_further, one_refused}
use Rattle.gs_master.proofs.Entered.{goes_back_on}
use Rattle.gs_master.proofs.event.Event.end_all_by.Goals as goal

blank : ReqId
blank = record { client = record { 0 = 0 }; number = 0 }

pub returns-in_err-end_by-clause-steps : goal.returns-in_err-end_by-clause-steps
unfolding blank
returns-in_err-end_by-clause-steps c =
    let refusal = c.args.refusal.now in
    let mid = c.loop-req.self in
    let e = c.in_err-end_by.field-0.0 in
    let copied = subst (λ r. WhyNotTurned (ended_by (state_at mid) (get_or c.args.reqs.now c.loop-req.req-index blank) r) mid e) c.in_ok-refusal.ensures c.in_err-end_by.ensures.steps in
    let why : WhyNotTurned (all_ended_by (state_at c.args.self.now) c.args.reqs.now refusal) c.args.self.now e =
    one_refused (λ req next. ended_by next req refusal) _ _ _ _ _ blank _ c.loop-req-test.true c.loop-req.invariant.rest copied in
    search (rules, why)

pub loop-req-preserved : goal.loop-req-preserved
unfolding blank
loop-req-preserved c =
    let refusal = c.args.refusal.now in
    let mid = c.loop-req.self in
    let copied = subst (λ r. IsTurned (ended_by (state_at mid) (get_or c.args.reqs.now c.loop-req.req-index blank) r) mid c.end_by.new.self) c.in_ok-refusal.ensures c.in_ok-end_by.ensures.steps in
    record {
      rest = one_further (λ req next. ended_by next req refusal) _ _ _ _ _ _ blank c.loop-req-test.true c.loop-req.invariant.rest copied;
      back = goes_back_on _ _ _ c.loop-req.invariant.back c.end_by.ensures.back;
    }

pub returns-clause-steps : goal.returns-clause-steps
returns-clause-steps c = none_left (λ req next. ended_by next req c.args.refusal.now) _ _ _ _ _ c.loop-req-test.false c.loop-req.invariant.rest

pub returns-in_err-end_by-clause-back : goal.returns-in_err-end_by-clause-back
returns-in_err-end_by-clause-back c = goes_back_on _ _ _ c.loop-req.invariant.back c.end_by.ensures.back
