use Rattle.std.proofs.Common.{[], ap, subst, sym, ◌∙◌}
use Rattle.std.specs.Prelude.{Some}
use Rattle.gs_master_spec.specs.State.{refusal_plan}
use Rattle.gs_master.specs.inner.Turns.{ComesWithOthers, state_at}
use Rattle.gs_master.proofs.Together.{refused_together}
use Rattle.gs_master.proofs.event.Event.refuse.Goals as goal

pub carry_out-requires-clause-together : goal.carry_out-requires-clause-together
carry_out-requires-clause-together c =
    subst ComesWithOthers (sym (c.in_ok-plan.ensures ∙ ap (λ s. refusal_plan s c.args.req c.args.refusal [] (Some c.args.refusal)) c.standing.ensures))
    (refused_together (state_at c.args.self.now) c.args.req c.args.refusal [] (Some c.args.refusal))
