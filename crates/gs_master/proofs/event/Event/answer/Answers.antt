use Rattle.std.proofs.Common.{ap, subst, sym, ◌∙◌}
use Rattle.gs_master_spec.specs.State.{answered}
use Rattle.gs_master.specs.inner.Turns.{ComesWithOthers, state_at}
use Rattle.gs_master.proofs.Accepting.{answered_together}
use Rattle.gs_master.proofs.event.Event.answer.Goals as goal

pub carry_out-requires-clause-together : goal.carry_out-requires-clause-together
carry_out-requires-clause-together c =
    subst ComesWithOthers (sym (c.in_ok-plan.ensures ∙ ap (λ s. answered s c.args.req c.args.answer) c.standing.ensures)) (answered_together (state_at c.args.self.now) c.args.req c.args.answer)
