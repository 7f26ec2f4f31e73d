use Rattle.std.proofs.Common.{◌≡◌, ◌∙◌, Ok, Err, Result, ap, subst, sym}
use Rattle.gs_base.specs.declared.refusal.Refusal.{Refusal}
use Rattle.gs_edit.specs.View.{NamesView}
use Rattle.gs_master_record.specs.Plain.{Cow}
use Rattle.gs_master_spec.specs.Settling.{replaced_if}
use Rattle.gs_master_state.specs.inner.Trying.{refusal_of}
use Rattle.gs_master_spec.specs.Undoing.{edited_names}
use Rattle.gs_master.specs.inner.Turns.{EventSteps, state_at}
use Rattle.gs_master.proofs.Ends.{accepted_by, refused_by}
use Rattle.gs_master.proofs.event.Event.judge_replacing.Goals as goal

pub returns-in-Some-clause-steps : goal.returns-in-Some-clause-steps
returns-in-Some-clause-steps c =
    let s = state_at c.args.self.now in
    let names = edited_names (Cow c.args.path c.args.index c.args.old c.args.new) s.durable.names in
    let is : names ≡ Err c.in-Some.refusal =
    refused_by names c.in-Some.refusal (sym c.in-Some.is ∙ c.in_ok-refusal.ensures.judged ∙ ap (λ p. refusal_of (edited_names (Cow p c.args.index c.args.old c.args.new) s.durable.names)) c.in_ok-copy.ensures) in
    subst (λ (r : Result NamesView Refusal). EventSteps (replaced_if s c.args.req c.args.path c.args.index c.args.old c.args.new r) c.args.self.now c.end_by.result c.end_by.new.self) (sym is)
    (subst (λ e. EventSteps (replaced_if (state_at e) c.args.req c.args.path c.args.index c.args.old c.args.new (Err c.in-Some.refusal)) e c.end_by.result c.end_by.new.self) c.in_ok-refusal.ensures.stays c.end_by.ensures.steps)

pub returns-clause-steps : goal.returns-clause-steps
returns-clause-steps c =
    let s = state_at c.args.self.now in
    let names = edited_names (Cow c.args.path c.args.index c.args.old c.args.new) s.durable.names in
    let made = accepted_by names (sym c.in_default.is ∙ c.in_ok-refusal.ensures.judged ∙ ap (λ p. refusal_of (edited_names (Cow p c.args.index c.args.old c.args.new) s.durable.names)) c.in_ok-copy.ensures) in
    subst (λ (r : Result NamesView Refusal). EventSteps (replaced_if s c.args.req c.args.path c.args.index c.args.old c.args.new r) c.args.self.now c.put_in_place.result c.put_in_place.new.self) (sym made.1)
    (subst (λ e. EventSteps (replaced_if (state_at e) c.args.req c.args.path c.args.index c.args.old c.args.new (Ok made.0)) e c.put_in_place.result c.put_in_place.new.self) c.in_ok-refusal.ensures.stays (c.put_in_place.ensures.steps made.0))
