use Rattle.std.proofs.Common.{ap, subst, sym, ◌∙◌}
use Rattle.std.specs.Prelude.{Some}
use Rattle.gs_master_spec.specs.Beginning.{begin_at, waits_from_now}
use Rattle.gs_master.specs.inner.Turns.{ComesWithOthers, state_at}
use Rattle.gs_master.proofs.Accepting.{begun_together}
use Rattle.gs_master.proofs.event.Event.begin_for.Goals as goal

pub carry_out_or_refuse-requires-clause-together : goal.carry_out_or_refuse-requires-clause-together
carry_out_or_refuse-requires-clause-together c =
    subst ComesWithOthers
    (sym (c.in_ok-plan.ensures ∙ ap (λ p. waits_from_now p c.args.req c.args.waits) (c.in_ok-begun.ensures ∙ ap (λ s. begin_at s c.args.chunk c.args.purpose (Some c.args.req)) c.standing.ensures)))
    (begun_together (state_at c.args.self.now) c.args.chunk c.args.purpose (Some c.args.req) c.args.req c.args.waits)
