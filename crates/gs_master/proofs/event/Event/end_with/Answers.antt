use Rattle.std.proofs.Common.{ap, subst, sym, ◌∙◌}
use Rattle.gs_master_spec.specs.Settling.{end_plan}
use Rattle.gs_master.specs.inner.Turns.{ComesWithOthers, state_at}
use Rattle.gs_master.proofs.Together.{ended_together}
use Rattle.gs_master.proofs.event.Event.end_with.Goals as goal

pub carry_out-requires-clause-together : goal.carry_out-requires-clause-together
carry_out-requires-clause-together c =
    subst ComesWithOthers (sym (c.in_ok-plan.ensures ∙ ap (λ s. end_plan s c.args.req c.args.answer) c.standing.ensures)) (ended_together (state_at c.args.self.now) c.args.req c.args.answer)
