use Rattle.std.proofs.Common.{ap, subst, sym, ◌∙◌}
use Rattle.gs_master_spec.specs.Beginning.{counted_views, targets_for}
use Rattle.gs_master_spec.specs.Chunks.{chunk_at}
use Rattle.gs_master_state.specs.inner.Knowing.{known_of}
use Rattle.gs_master_spec.specs.State.{Turn}
use Rattle.gs_master.specs.inner.Turns.{EventSteps, state_at}
use Rattle.gs_master.proofs.Lengthened.{replicates_known}
use Rattle.gs_master.proofs.event.Event.replicate_chunk.Goals as goal

pub returns-clause-steps : goal.returns-clause-steps
returns-clause-steps c =
    let s = state_at c.args.self.now in
    let config = c.args.config.now in
    subst (λ (t : Turn). EventSteps t c.args.self.now c.replicate_to.result c.replicate_to.new.self)
    (sym (replicates_known config s c.args.req c.args.chunk (chunk_at s c.args.chunk) (known_of c.in-Some.known) c.targets_for-targets.result (c.in-Some.ensures ∙ ap (λ s. chunk_at s c.args.chunk) c.standing.ensures)
    (sym c.is_wanted.ensures ∙ c.if-is_wanted.false) (c.targets_for-targets.ensures ∙ (λ i. targets_for config (counted_views (c.standing-2.ensures i)) (c.members.ensures i) 1))))
    c.replicate_to.ensures.steps
