use Rattle.std.proofs.Common.{[], ◌∷◌, ◌+◌, ap, refl, subst, sym, ◌∙◌}
use Rattle.gs_base.specs.declared.epoch.EpochEnd.TheVariants as ends
use Rattle.gs_master_record.specs.Plain.{Finalize}
use Rattle.gs_master.specs.inner.Turns.{ComesWithOthers, state_at}
use Rattle.gs_master_spec.specs.Upgrades.{accepted_plan, tell_all}
use Rattle.gs_master.proofs.Accepting.{accepted_together}
use Rattle.gs_master.proofs.event.Event.finalize.Goals as goal

pub carry_out_or_refuse-requires-clause-together : goal.carry_out_or_refuse-requires-clause-together
carry_out_or_refuse-requires-clause-together c =
    let s = state_at c.args.self.now in
    let config = c.args.config.now in
    subst ComesWithOthers (sym (c.in_ok-plan.ensures ∙ ap (λ s. accepted_plan s c.args.req (Finalize (s.durable.epoch + 1) ∷ []) [] (tell_all config (s.durable.epoch + 1) ends.Finalize) (s.durable.epoch + 1)) c.standing.ensures))
    (accepted_together s c.args.req (Finalize (s.durable.epoch + 1) ∷ []) [] (tell_all config (s.durable.epoch + 1) ends.Finalize) (s.durable.epoch + 1) refl)
