use Rattle.std.proofs.Common.{◌≡◌, ◌∙◌, ap, subst, sym}
use Rattle.std.specs.Prelude.{Some}
use Rattle.gs_master_spec.specs.Calls.{refused_before}
use Rattle.gs_master_spec.specs.Handling.{called_unless}
use Rattle.gs_master.specs.inner.Turns.{EventSteps, state_at}
use Rattle.gs_master.proofs.event.Event.new_call.Goals as goal

pub returns-in-Ok-Some-clause-steps : goal.returns-in-Ok-Some-clause-steps
returns-in-Ok-Some-clause-steps c =
    let s = state_at c.args.self.now in
    let req = c.args.req in
    let call = c.args.call in
    let is : Some c.in-Ok-Some.refusal ≡ refused_before s req call = sym c.in-Ok-Some.field-0-is ∙ c.in-Ok-Some.ensures ∙ ap (λ t. refused_before t req call) c.standing.ensures in
    subst (λ o. EventSteps (called_unless c.args.config.now s req c.args.moment call o) c.args.self.now c.refuse.result c.refuse.new.self) is c.refuse.ensures.steps
