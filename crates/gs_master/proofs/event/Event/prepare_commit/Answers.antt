use Rattle.std.proofs.Common.{[], ◌∷◌, ◌+◌, false, ap, refl, subst, sym, ◌∙◌}
use Rattle.gs_base.specs.declared.epoch.EpochEnd.TheVariants as ends
use Rattle.gs_master_record.specs.Plain.{Prepare}
use Rattle.gs_master.specs.inner.Turns.{ComesWithOthers, state_at}
use Rattle.gs_master_spec.specs.Upgrades.{accepted_plan, chunk_count, tell_all}
use Rattle.gs_master_spec.specs.declared.change.Change.TheVariants as changes
use Rattle.gs_master.proofs.Accepting.{accepted_together}
use Rattle.gs_master.proofs.event.Event.prepare_commit.Goals as goal

pub carry_out_or_refuse-requires-clause-together : goal.carry_out_or_refuse-requires-clause-together
carry_out_or_refuse-requires-clause-together c =
    let s = state_at c.args.self.now in
    let config = c.args.config.now in
    subst ComesWithOthers
    (sym (c.in_ok-plan.ensures ∙ ap (λ s. accepted_plan s c.args.req (Prepare (s.durable.epoch + 1) c.args.moment.0 (chunk_count s) ∷ []) (changes.Prepare false ∷ []) (tell_all config (s.durable.epoch + 1) ends.Prepare) (s.durable.epoch + 1)) c.standing-3.ensures))
    (accepted_together s c.args.req (Prepare (s.durable.epoch + 1) c.args.moment.0 (chunk_count s) ∷ []) (changes.Prepare false ∷ []) (tell_all config (s.durable.epoch + 1) ends.Prepare) (s.durable.epoch + 1) refl)
