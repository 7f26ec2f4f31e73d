use Rattle.std.proofs.Common.{[], ◌∷◌, false, ap, refl, subst, sym, ◌∙◌}
use Rattle.gs_master.specs.inner.Turns.{ComesWithOthers, state_at}
use Rattle.gs_master_spec.specs.Upgrades.{accepted_plan}
use Rattle.gs_master_spec.specs.declared.change.Change.TheVariants as changes
use Rattle.gs_master.proofs.Accepting.{accepted_together}
use Rattle.gs_master.proofs.event.Event.prepare_abort.Goals as goal

pub carry_out-requires-clause-together : goal.carry_out-requires-clause-together
carry_out-requires-clause-together c =
    let s = state_at c.args.self.now in
    subst ComesWithOthers (sym (c.in_ok-plan.ensures ∙ ap (λ s. accepted_plan s c.args.req [] (changes.Prepare false ∷ []) [] s.durable.epoch) c.standing-2.ensures))
    (accepted_together s c.args.req [] (changes.Prepare false ∷ []) [] s.durable.epoch refl)
