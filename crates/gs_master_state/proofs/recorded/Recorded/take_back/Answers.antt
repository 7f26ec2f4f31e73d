use Rattle.std.proofs.Common.{refl, subst, sym}
use Rattle.gs_master_state.specs.inner.Recorded.{KeepsRooms, durable_of}
use Rattle.gs_master_state.specs.inner.TakingBack.{TakesBack, rooms_before}
use Rattle.gs_master_state.proofs.recorded.Recorded.take_back.Goals as goal

pub returns-in-RollbackBegin-clause-value : goal.returns-in-RollbackBegin-clause-value
returns-in-RollbackBegin-clause-value c = λ before back. c.take_rollback_back.ensures.value before (subst (λ undo. TakesBack undo before (durable_of c.args.self.now)) c.in-RollbackBegin.is back)

pub returns-in-Holder-clause-keeps : goal.returns-in-Holder-clause-keeps
returns-in-Holder-clause-keeps c =
    subst (λ undo. KeepsRooms (rooms_before undo c.args.self.now) (record (c.args.self.now) { prepared = c.put_back.new.table })) (sym c.in-Holder.is)
    (record { leases = record { keeps = λ key room. room }; replies = record { keeps = λ key room. room }; prepared = c.put_back.ensures.keeps; places = refl })

pub returns-in-Epoch-clause-value : goal.returns-in-Epoch-clause-value
returns-in-Epoch-clause-value c = λ before back. c.take_epoch_back.ensures.value before (subst (λ undo. TakesBack undo before (durable_of c.args.self.now)) c.in-Epoch.is back)
