use Rattle.std.proofs.Common.{ap, ◌∙◌}
use Rattle.gs_master_record.specs.Plain.{Snapshot}
use Rattle.gs_master_state.specs.inner.Recorded.{durable_of}
use Rattle.gs_master_state.specs.inner.Trying.{of_tree, refusal_of}
use Rattle.gs_master_spec.specs.Undoing.{edited_names}
use Rattle.gs_master.proofs.Copies.{by_tree}
use Rattle.gs_master.proofs.event.Event.refusal_of_copy.Goals as goal

pub returns-clause-judged : goal.returns-clause-judged
returns-clause-judged c =
    let names = (durable_of c.args.self.now.recorded).names in
    c.of_tree.ensures ∙ ap of_tree c.in_ok-judged.ensures.judged
    ∙ (λ i. of_tree (refusal_of (edited_names (Snapshot (c.in_ok-copy.ensures i) (c.in_ok-copy-2.ensures i)) names)))
    ∙ by_tree c.args.from.now c.args.to.now names
