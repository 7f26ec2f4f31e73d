use Rattle.std.proofs.Common.{◌≡◌, ◌∙◌, Err, subst, sym}
use Rattle.gs_master_record.specs.Plain.{plain_edit}
use Rattle.gs_master_spec.specs.Settling.{edit_plan, edit_turn}
use Rattle.gs_master_spec.specs.State.{ended_by}
use Rattle.gs_master.specs.inner.Turns.{EventSteps, state_at}
use Rattle.gs_master_spec.specs.Undoing.{edited_names}
use Rattle.gs_master.proofs.Ends.{refused_by}
use Rattle.gs_master.proofs.event.Event.judge_end.Goals as goal

pub returns-in-Some-clause-steps : goal.returns-in-Some-clause-steps
returns-in-Some-clause-steps c =
    let s = state_at c.args.self.now in
    let edit = plain_edit c.args.edit in
    let is : edited_names edit s.durable.names ≡ Err c.in-Some.refusal = refused_by (edited_names edit s.durable.names) c.in-Some.refusal (sym c.in-Some.is ∙ c.in_ok-refusal.ensures.judged) in
    let done : EventSteps (ended_by s c.args.req c.in-Some.refusal) c.args.self.now c.end_by.result c.end_by.new.self =
    subst (λ e. EventSteps (ended_by (state_at e) c.args.req c.in-Some.refusal) e c.end_by.result c.end_by.new.self) c.in_ok-refusal.ensures.stays c.end_by.ensures.steps in
    subst (λ r. EventSteps (edit_turn s c.args.req (edit_plan c.args.req edit c.args.answer c.args.before.items) r) c.args.self.now c.end_by.result c.end_by.new.self) (sym is) done
