use Rattle.std.proofs.Common.{◌∙◌, ap, subst, sym}
use Rattle.gs_msg.specs.declared.answer.Answer.TheVariants as answers
use Rattle.gs_master_record.specs.Plain.{Rename}
use Rattle.gs_master_spec.specs.Calls.{edited_by}
use Rattle.gs_master_spec.specs.State.{Turn}
use Rattle.gs_master_state.proofs.Renames.{renames_is}
use Rattle.gs_master.specs.inner.Turns.{EventSteps, state_at}
use Rattle.gs_master.proofs.event.Event.rename.Goals as goal

pub returns-clause-steps : goal.returns-clause-steps
returns-clause-steps c =
    let s = state_at c.args.self.now in
    subst (λ (t : Turn). EventSteps t c.args.self.now c.edit_by.result c.edit_by.new.self)
    (sym (renames_is s c.args.req c.args.from c.args.to ∙ ap (λ p. edited_by s c.args.req (Rename c.args.from p) answers.Nothing) (sym c.in_ok-target.ensures)))
    c.edit_by.ensures.steps
