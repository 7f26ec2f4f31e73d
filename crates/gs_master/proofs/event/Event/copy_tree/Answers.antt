use Rattle.std.proofs.Common.{◌≡◌, [], ap, rules, subst, sym, true}
use Rattle.std.specs.Prelude.{if◌then◌else◌}
use Rattle.std.specs.List.{list_all}
use Rattle.gs_msg.specs.declared.answer.Answer.TheVariants as answers
use Rattle.gs_master_record.specs.Plain.{Snapshot, plain_edit}
use Rattle.gs_master_spec.specs.Settling.{ended_by_edit, is_quiet_at, source_chunks}
use Rattle.gs_master_spec.specs.State.{State, unmoved}
use Rattle.gs_master.specs.inner.Turns.{EventSteps, state_at}
use Rattle.gs_master.proofs.Entered.{goes_back_on}
use Rattle.gs_master.proofs.Noting.{noted_back, noted_steps}
use Rattle.gs_master.proofs.event.Event.copy_tree.Goals as goal

pub returns-clause-back : goal.returns-clause-back
returns-clause-back c =
    goes_back_on c.args.self.now c.waits_for_source.new.self c.end_by_edit.new.self (noted_back c.args.self.now c.waits_for_source.new.self c.requires c.waits_for_source.ensures.stays) c.end_by_edit.ensures.back

pub returns-clause-steps : goal.returns-clause-steps
returns-clause-steps c =
    let s = state_at c.args.self.now in
    let m = c.waits_for_source.new.self in
    let quiet : list_all (is_quiet_at s) (source_chunks s c.args.from) ≡ true = search rules in
    let made =
    subst (λ x. EventSteps (ended_by_edit (state_at m) c.args.req (plain_edit x) answers.Nothing c.new-before.result.items) m c.end_by_edit.result c.end_by_edit.new.self) c.snapshot_edit-edit.ensures c.end_by_edit.ensures.steps in
    let bare = subst (λ items. EventSteps (ended_by_edit (state_at m) c.args.req (Snapshot c.args.from c.args.to) answers.Nothing items) m c.end_by_edit.result c.end_by_edit.new.self) c.new-before.ensures.items made in
    let same = ap state_at c.waits_for_source.ensures.stays in
    let from_here = subst (λ (u : State). EventSteps (ended_by_edit u c.args.req (Snapshot c.args.from c.args.to) answers.Nothing []) m c.end_by_edit.result c.end_by_edit.new.self) same bare in
    let back = noted_steps (ended_by_edit s c.args.req (Snapshot c.args.from c.args.to) answers.Nothing []) c.args.self.now m c.end_by_edit.result c.end_by_edit.new.self c.waits_for_source.ensures.stays from_here in
    subst (λ b. EventSteps (if b then ended_by_edit s c.args.req (Snapshot c.args.from c.args.to) answers.Nothing [] else unmoved s) c.args.self.now c.end_by_edit.result c.end_by_edit.new.self) (sym quiet) back
