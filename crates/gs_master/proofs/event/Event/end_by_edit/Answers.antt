use Rattle.std.proofs.Common.{◌≡◌, ◌≤◌, Ok, subst}
use Rattle.gs_master_record.specs.Plain.{plain_edit}
use Rattle.gs_master_state.specs.inner.Plans.{plan_of}
use Rattle.gs_master_state.specs.inner.TakingBack.{RoomForAll}
use Rattle.gs_master.specs.inner.Events.{EntersEdit, KeepsBack}
use Rattle.gs_master.specs.inner.Turns.{GoesBack}
use Rattle.gs_master.specs.declared.event.Event.{Event}
use Rattle.gs_master.proofs.Entered.{goes_back_on, stepped_back}
use Rattle.gs_master.proofs.Making.{StaysBeside, ended_steps}
use Rattle.gs_master.proofs.event.Event.end_by_edit.Goals as goal

beside : (old mid : Event) → (mid.memory ≡ old.memory) × (mid.sent ≡ old.sent) × (mid.said ≡ old.said) × (mid.fault ≡ old.fault) → StaysBeside old mid
beside old mid others = record { memory = others.0; sent = others.1; said = others.2; fault = others.3 }

here : (old mid : Event) → KeepsBack old mid → RoomForAll mid.recorded mid.undos.items → mid.log.records ≤ mid.log.size
    → (mid.memory ≡ old.memory) × (mid.sent ≡ old.sent) × (mid.said ≡ old.said) × (mid.fault ≡ old.fault) → GoesBack old mid
here old mid back room counted others = stepped_back old mid back room counted others.3 others.1

pub returns-in_ok-plan-in-Ok-None-clause-steps : goal.returns-in_ok-plan-in-Ok-None-clause-steps
returns-in_ok-plan-in-Ok-None-clause-steps c =
    ended_steps c.args.self.now c.enter_edit.new.self c.carry_out.new.self c.carry_out.result c.args.req (plain_edit c.args.edit) c.args.answer c.args.before.items (plan_of c.in_ok-plan-in-Ok-None.plan)
    (subst (λ back. EntersEdit c.args.req c.args.edit c.args.self.now (Ok back) c.enter_edit.new.self) c.in-Ok-None.field-0-is c.in-Ok-None.ensures.entered) (beside c.args.self.now c.enter_edit.new.self c.enter_edit.ensures.others)
    c.in_ok-plan-in-Ok-None.ensures c.carry_out.ensures.steps

pub returns-in_ok-plan-in-Ok-None-clause-back : goal.returns-in_ok-plan-in-Ok-None-clause-back
returns-in_ok-plan-in-Ok-None-clause-back c =
    let done = c.enter_edit.ensures in
    goes_back_on c.args.self.now c.enter_edit.new.self c.carry_out.new.self (here c.args.self.now c.enter_edit.new.self done.back done.room done.counted done.others) c.carry_out.ensures.back

pub returns-in-Ok-Some-clause-back : goal.returns-in-Ok-Some-clause-back
returns-in-Ok-Some-clause-back c =
    let done = c.enter_edit.ensures in
    goes_back_on c.args.self.now c.enter_edit.new.self c.judge_end.new.self (here c.args.self.now c.enter_edit.new.self done.back done.room done.counted done.others) c.judge_end.ensures.back
