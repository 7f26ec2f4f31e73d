use Rattle.std.proofs.Common.{◌≡◌, ◌≤◌, ℕ, None, Ok, Option, rules, subst}
use Rattle.gs_base.specs.declared.numbers.ReqId.{ReqId}
use Rattle.gs_edit.specs.declared.edit.Edit.{Edit}
use Rattle.gs_edit.specs.declared.edit.Edit.TheVariants as edits
use Rattle.gs_path.specs.Path.{Path}
use Rattle.gs_master_record.specs.Plain.{Cow, Edited}
use Rattle.gs_master_spec.specs.Settling.{own_request}
use Rattle.gs_master_state.specs.inner.Plans.{plan_of}
use Rattle.gs_master_state.specs.inner.TakingBack.{RoomForAll}
use Rattle.gs_master.specs.inner.Events.{EntersEdit, IsEntered, KeepsBack}
use Rattle.gs_master.specs.inner.Turns.{GoesBack}
use Rattle.gs_master.specs.declared.event.Event.{Event}
use Rattle.gs_master.proofs.Entered.{goes_back_on, stepped_back}
use Rattle.gs_master.proofs.Making.{StaysBeside, replaced_steps, unplaced_why}
use Rattle.gs_master.proofs.event.Event.replace.Goals as goal

beside : (old mid : Event) → (mid.memory ≡ old.memory) × (mid.sent ≡ old.sent) × (mid.said ≡ old.said) × (mid.fault ≡ old.fault) → StaysBeside old mid
beside old mid others = record { memory = others.0; sent = others.1; said = others.2; fault = others.3 }

here : (old mid : Event) → KeepsBack old mid → RoomForAll mid.recorded mid.undos.items → mid.log.records ≤ mid.log.size
    → (mid.memory ≡ old.memory) × (mid.sent ≡ old.sent) × (mid.said ≡ old.said) × (mid.fault ≡ old.fault) → GoesBack old mid
here old mid back room counted others = stepped_back old mid back room counted others.3 others.1

-- the path of the edit is a copy of the file's
placed : (by : ReqId) (place path : Path) (index before after : ℕ) (old mid : Event) (back : Option Edit) → EntersEdit by (edits.Cow place index before after) old (Ok back) mid → back ≡ None → by ≡ own_request → place ≡ path →
    IsEntered (Edited own_request (Cow path index before after)) old mid
placed by place path index before after old mid back enters none own same =
    subst (λ p. IsEntered (Edited own_request (Cow p index before after)) old mid) same
    (subst (λ (r : ReqId). IsEntered (Edited r (Cow place index before after)) old mid) own
    (subst (λ (back : Option Edit). EntersEdit by (edits.Cow place index before after) old (Ok back) mid) none enters))

pub returns-in-Some-clause-back : goal.returns-in-Some-clause-back
returns-in-Some-clause-back c =
    let done = c.enter_edit.ensures in
    goes_back_on c.args.self.now c.enter_edit.new.self c.judge_replacing.new.self (here c.args.self.now c.enter_edit.new.self done.back done.room done.counted done.others) c.judge_replacing.ensures.back

pub returns-in_err-carry_out-clause-back : goal.returns-in_err-carry_out-clause-back
returns-in_err-carry_out-clause-back c =
    let done = c.enter_edit.ensures in
    goes_back_on c.args.self.now c.enter_edit.new.self c.carry_out.new.self (here c.args.self.now c.enter_edit.new.self done.back done.room done.counted done.others) c.carry_out.ensures.back

pub returns-in_err-carry_out-clause-steps : goal.returns-in_err-carry_out-clause-steps
returns-in_err-carry_out-clause-steps c =
    let why = unplaced_why c.args.self.now c.enter_edit.new.self c.args.req c.args.path c.args.index c.args.old c.args.new (plan_of c.in_ok-plan.plan)
    (placed c.own_request.result c.in_ok-copy.field-0 c.args.path c.args.index c.args.old c.args.new c.args.self.now c.enter_edit.new.self _ c.in_ok-edit.ensures.entered c.in_default.is c.own_request.ensures c.in_ok-copy.ensures)
    (beside c.args.self.now c.enter_edit.new.self c.enter_edit.ensures.others) c.in_ok-plan.ensures c.carry_out.new.self _ c.in_err-carry_out.ensures.steps in
    search (rules, why)

pub returns-clause-back : goal.returns-clause-back
returns-clause-back c =
    let done = c.enter_edit.ensures in
    goes_back_on c.args.self.now c.enter_edit.new.self c.lease.new.self (here c.args.self.now c.enter_edit.new.self done.back done.room done.counted done.others)
    (goes_back_on c.enter_edit.new.self c.carry_out.new.self c.lease.new.self c.carry_out.ensures.back c.lease.ensures.back)

pub returns-clause-steps : goal.returns-clause-steps
returns-clause-steps c =
    replaced_steps c.args.self.now c.enter_edit.new.self c.args.req c.args.path c.args.index c.args.old c.args.new (plan_of c.in_ok-plan.plan)
    (placed c.own_request.result c.in_ok-copy.field-0 c.args.path c.args.index c.args.old c.args.new c.args.self.now c.enter_edit.new.self _ c.in_ok-edit.ensures.entered c.in_default.is c.own_request.ensures c.in_ok-copy.ensures)
    (beside c.args.self.now c.enter_edit.new.self c.enter_edit.ensures.others) c.in_ok-plan.ensures c.carry_out.new.self c.lease.new.self c.lease.result c.in_ok-carry_out.ensures.steps c.lease.ensures.steps
