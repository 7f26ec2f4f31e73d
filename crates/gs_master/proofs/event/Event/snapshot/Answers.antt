use Rattle.std.proofs.Common.{◌≡◌, ◌∙◌, [], Err, ap, length, rules, subst, sym}
use Rattle.std.specs.FinMap as fin
use Rattle.gs_edit.specs.Edits.{edited}
use Rattle.gs_edit.specs.declared.edit.Edit.TheVariants as edits
use Rattle.gs_msg.specs.declared.answer.Answer.TheVariants as answers
use Rattle.gs_master_record.specs.Plain.{Snapshot, plain_edit}
use Rattle.gs_master_spec.specs.Calls.{edited_by}
use Rattle.gs_master_spec.specs.State.{refused}
use Rattle.gs_master.specs.inner.Turns.{EventSteps, state_at}
use Rattle.gs_master_spec.specs.Working.{begins_snapshot, snapshot_if, unquiet}
use Rattle.gs_master.proofs.Copies.{none_of}
use Rattle.gs_master.proofs.Ends.{accepted_by, refused_by}
use Rattle.gs_master.proofs.event.Event.snapshot.Goals as goal

pub returns-in-Some-clause-steps : goal.returns-in-Some-clause-steps
returns-in-Some-clause-steps c =
    let s = state_at c.args.self.now in
    let tree = edited (edits.Snapshot c.args.from c.args.to) (fin.entries s.durable.names.tree) in
    let is : tree ≡ Err c.in-Some.refusal = refused_by tree c.in-Some.refusal (sym c.in-Some.is ∙ c.in_ok-refusal.ensures.judged) in
    let done : EventSteps (refused s c.args.req c.in-Some.refusal) c.args.self.now c.refuse.result c.refuse.new.self =
    subst (λ e. EventSteps (refused (state_at e) c.args.req c.in-Some.refusal) e c.refuse.result c.refuse.new.self) c.in_ok-refusal.ensures.stays c.refuse.ensures.steps in
    subst (λ r. EventSteps (snapshot_if s c.args.req c.args.from c.args.to r) c.args.self.now c.refuse.result c.refuse.new.self) (sym is) done

pub returns-then-is_empty-clause-steps : goal.returns-then-is_empty-clause-steps
returns-then-is_empty-clause-steps c =
    let s = state_at c.args.self.now in
    let tree = edited (edits.Snapshot c.args.from c.args.to) (fin.entries s.durable.names.tree) in
    let made = accepted_by tree (sym c.in_default.is ∙ c.in_ok-refusal.ensures.judged) in
    let at = c.standing.ensures ∙ ap state_at c.in_ok-refusal.ensures.stays in
    let found = c.in_ok-chunks.ensures.value ∙ ap (λ t. unquiet t c.args.from) at in
    let empty : length c.in_ok-chunks.chunks.items ≡ 0 = search rules in
    let none : unquiet s c.args.from ≡ [] = sym found ∙ none_of c.in_ok-chunks.chunks.items empty in
    let done : EventSteps (edited_by s c.args.req (Snapshot c.args.from c.args.to) answers.Nothing) c.args.self.now c.edit_by.result c.edit_by.new.self =
    subst (λ e. EventSteps (edited_by (state_at e) c.args.req (Snapshot c.args.from c.args.to) answers.Nothing) e c.edit_by.result c.edit_by.new.self) c.in_ok-refusal.ensures.stays
    (subst (λ x. EventSteps (edited_by (state_at c.refusal_of_copy.new.self) c.args.req (plain_edit x) answers.Nothing) c.refusal_of_copy.new.self c.edit_by.result c.edit_by.new.self) c.snapshot_edit-edit.ensures c.edit_by.ensures.steps) in
    subst (λ r. EventSteps (snapshot_if s c.args.req c.args.from c.args.to r) c.args.self.now c.edit_by.result c.edit_by.new.self) (sym made.1)
    (subst (λ chunks. EventSteps (begins_snapshot s c.args.req c.args.from c.args.to chunks) c.args.self.now c.edit_by.result c.edit_by.new.self) (sym none) done)
