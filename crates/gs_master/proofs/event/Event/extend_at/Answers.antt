use Rattle.std.proofs.Common.{ap, subst, sym, ◌∙◌}
use Rattle.std.proofs.lemmas.Bool.{le-ltb, lt-leb}
use Rattle.std.specs.FinMap as fin
use Rattle.gs_master_spec.specs.Beginning.{counted_views, targets_for}
use Rattle.gs_master_spec.specs.State.{Turn}
use Rattle.gs_master.specs.inner.Turns.{EventSteps, state_at}
use Rattle.gs_master_spec.specs.Working.{created_on}
use Rattle.gs_master.proofs.Lengthened.{extends_new}
use Rattle.gs_master.proofs.event.Event.extend_at.Goals as goal

pub returns-in-Some-clause-steps : goal.returns-in-Some-clause-steps
returns-in-Some-clause-steps c =
    let s = state_at c.args.self.now in
    let config = c.args.config.now in
    subst (λ (t : Turn). EventSteps t c.args.self.now c.create.result c.create.new.self)
    (sym (extends_new config s c.args.req c.args.path c.args.index c.args.chunks (fin.get s.durable.names.tree c.args.path) c.requires.file (le-ltb c.args.index c.args.chunks c.if-index-chunks.false) (le-ltb c.args.chunks c.args.index c.if-chunks-index.false) (lt-leb 4096 c.args.index c.if-index-ge-MOST_CHUNKS.false)
    ∙ ap (created_on s c.args.req c.args.path) (sym (c.in-Some.ensures ∙ (λ i. targets_for config (counted_views (c.standing.ensures i)) (c.none-none.ensures i) config.replicas)))))
    c.create.ensures.steps

pub returns-in-None-clause-steps : goal.returns-in-None-clause-steps
returns-in-None-clause-steps c =
    let s = state_at c.args.self.now in
    let config = c.args.config.now in
    subst (λ (t : Turn). EventSteps t c.args.self.now c.refuse-in-None.result c.refuse-in-None.new.self)
    (sym (extends_new config s c.args.req c.args.path c.args.index c.args.chunks (fin.get s.durable.names.tree c.args.path) c.requires.file (le-ltb c.args.index c.args.chunks c.if-index-chunks.false) (le-ltb c.args.chunks c.args.index c.if-chunks-index.false) (lt-leb 4096 c.args.index c.if-index-ge-MOST_CHUNKS.false)
    ∙ ap (created_on s c.args.req c.args.path) (sym (c.in-None.ensures ∙ (λ i. targets_for config (counted_views (c.standing.ensures i)) (c.none-none.ensures i) config.replicas)))))
    c.refuse-in-None.ensures.steps
