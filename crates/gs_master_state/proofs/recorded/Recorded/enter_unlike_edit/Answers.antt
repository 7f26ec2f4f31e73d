use Rattle.std.proofs.Common.{subst, sym}
use Rattle.gs_master_record.specs.Plain.{Prepare, plain}
use Rattle.gs_master_state.specs.inner.Recorded.{durable_of}
use Rattle.gs_master_state.specs.inner.TakingBack.{Enters}
use Rattle.gs_master_state.proofs.Before.{enters}
use Rattle.gs_master_state.proofs.recorded.Recorded.enter_unlike_edit.Goals as goal

pub returns-in-Prepare-clause-applied : goal.returns-in-Prepare-clause-applied
returns-in-Prepare-clause-applied c =
    subst (λ entry. Enters (plain entry) c.enter_prepare.result (durable_of c.args.self.now) (durable_of c.enter_prepare.new.self)) (sym c.in-Prepare.is)
    (enters (Prepare c.in-Prepare.epoch c.in-Prepare.moment.0 c.in-Prepare.chunks) c.enter_prepare.result _ _ (c.enter_prepare.ensures.applied c.in-Prepare.moment.0 c.in-Prepare.chunks))
