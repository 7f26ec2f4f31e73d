use Rattle.std.proofs.Common.{ap, subst, sym, ◌∙◌}
use Rattle.std.specs.Prelude.{None}
use Rattle.gs_master_spec.specs.State.{end_changes, refusal_plan}
use Rattle.gs_master.specs.inner.Turns.{ComesWithOthers, state_at}
use Rattle.gs_master.proofs.Together.{refused_together}
use Rattle.gs_master.proofs.event.Event.end_by.Goals as goal

pub carry_out-requires-clause-together : goal.carry_out-requires-clause-together
carry_out-requires-clause-together c =
    subst ComesWithOthers (sym (c.in_ok-plan.ensures ∙ ap (λ s. refusal_plan s c.args.req c.args.refusal (end_changes s c.args.req) None) c.standing.ensures)) (refused_together (state_at c.args.self.now) c.args.req c.args.refusal (end_changes (state_at c.args.self.now) c.args.req) None)
