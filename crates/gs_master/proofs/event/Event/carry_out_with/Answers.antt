use Rattle.std.proofs.Common.{◌∙◌, [], append-nil, sym}
use Rattle.gs_master_state.specs.inner.Plans.{plan_of}
use Rattle.gs_master.proofs.Entered.{carried, goes_back_on, goes_back_said, goes_back_sent}
use Rattle.gs_master.proofs.event.Event.carry_out_with.Goals as goal

pub returns-in_err-change_all-clause-back : goal.returns-in_err-change_all-clause-back
returns-in_err-change_all-clause-back c = goes_back_on c.args.self.now c.enter_all.new.self c.change_all.new.self c.enter_all.ensures.back c.change_all.ensures.back

pub returns-in_err-send_all-clause-back : goal.returns-in_err-send_all-clause-back
returns-in_err-send_all-clause-back c =
    goes_back_sent c.args.self.now c.change_all.new.self c.send_all.new.self
    (goes_back_on c.args.self.now c.enter_all.new.self c.change_all.new.self c.enter_all.ensures.back c.change_all.ensures.back) c.send_all.ensures.others [] (c.in_err-send_all.ensures.stays ∙ sym (append-nil _))

pub returns-clause-steps : goal.returns-clause-steps
returns-clause-steps c =
    let others = c.enter_all.ensures.others in
    carried c.args.self.now c.enter_all.new.self c.change_all.new.self c.send_all.new.self c.say.new.self (plan_of c.args.plan) c.in_ok-enter_all.ensures.entered others.0 others.1 others.2
    c.enter_all.ensures.back.fault c.change_all.ensures.others c.in_ok-change_all.ensures.changed c.send_all.ensures.others c.in_ok-send_all.ensures.sent c.say.ensures

pub returns-clause-back : goal.returns-clause-back
returns-clause-back c =
    goes_back_said c.args.self.now c.send_all.new.self c.say.new.self _
    (goes_back_sent c.args.self.now c.change_all.new.self c.send_all.new.self
    (goes_back_on c.args.self.now c.enter_all.new.self c.change_all.new.self c.enter_all.ensures.back c.change_all.ensures.back) c.send_all.ensures.others _ c.in_ok-send_all.ensures.sent)
    c.say.ensures
