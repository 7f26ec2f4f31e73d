use Rattle.std.proofs.Common.{subst, sym}
use Rattle.gs_master_state.specs.inner.Held.{HeldView}
use Rattle.gs_master_state.specs.inner.Recorded.{durable_of}
use Rattle.gs_master_state.specs.inner.TakingBack.{AreNamesBefore, TakesBack}
use Rattle.gs_master_state.proofs.recorded.Recorded.let_last_go.Goals as goal

pub follow-requires : goal.follow-requires
follow-requires c =
    let back = subst (λ u. TakesBack u c.requires.0 (durable_of c.args.self.now)) c.in-Edit.is c.requires.1 in
    (c.requires.0.names, subst (λ (v : HeldView). AreNamesBefore c.in-Edit.before.names c.requires.0.names v.names) (sym c.release_each.ensures.names) back.names)
