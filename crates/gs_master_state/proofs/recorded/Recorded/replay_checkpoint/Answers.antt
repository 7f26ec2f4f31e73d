use Rattle.std.proofs.Common.{inl, inr, ⊎_elim, refl}
use Rattle.gs_master_spec.specs.Applied.{applied}
use Rattle.gs_master_state.proofs.recorded.Recorded.replay_checkpoint.Goals as goal

pub returns-in-Ok : goal.returns-in-Ok
unfolding applied
returns-in-Ok c = c.in-Ok.ensures

pub returns-in-Err : goal.returns-in-Err
unfolding applied
returns-in-Err c = (⊎_elim (λ memory. inl memory) (λ unfit. inr (unfit.1, unfit.0)) c.in-Err.ensures, refl)
