use Rattle.std.proofs.Common.{◌≡◌, ◌&&◌, false, not, ap, subst, sym, ◌∙◌}
use Rattle.std.proofs.lemmas.Bool.{and_left, and_right, false≢true}
use Rattle.std.specs.FinMap as fin
use Rattle.gs_msg.specs.declared.answer.Answer.TheVariants as answers
use Rattle.gs_master_record.specs.Plain.{Hide}
use Rattle.gs_master_spec.specs.Calls.{edited_by, has_visible_child}
use Rattle.gs_master_spec.specs.State.{Turn}
use Rattle.gs_master.specs.inner.Turns.{EventSteps, state_at}
use Rattle.gs_master.proofs.Lengthened.{deletes}
use Rattle.gs_master.proofs.event.Event.delete.Goals as goal
use Rattle.gs_master.proofs.event.Event.delete.Goals.{else-not-recursive-via-then-not-recursive+else-has_visible_child, else-not-recursive-via-else-not-recursive}

pub returns-clause-steps : goal.returns-clause-steps
returns-clause-steps c =
    let s = state_at c.args.self.now in
    let number = s.durable.next_hidden in
    let visible : (not c.args.recursive && has_visible_child (fin.entries s.durable.names.tree) c.args.path) ≡ false = elim c.else-not-recursive.branch [
      | else-not-recursive-via-then-not-recursive+else-has_visible_child w ↦ and_right (not c.args.recursive) _ (sym w.has_visible_child.ensures ∙ w.if-has_visible_child.false)
      | else-not-recursive-via-else-not-recursive w ↦ and_left (not c.args.recursive) _ (ap not w.if-not-recursive.false)
    ] in
    subst (λ (t : Turn). EventSteps t c.args.self.now c.edit_by.result c.edit_by.new.self)
    (sym (deletes s c.args.req c.args.path c.args.recursive c.args.moment (λ root. false≢true (sym c.if-is_root.false ∙ c.is_root.ensures.1 root)) (sym c.stands.ensures ∙ c.if-not-stands.false) visible c.if-number-eq0.false
    ∙ ap (λ p. edited_by s c.args.req (Hide c.args.path c.args.moment.0 number) (answers.Path p)) (sym c.in_ok-hidden.ensures)))
    c.edit_by.ensures.steps
