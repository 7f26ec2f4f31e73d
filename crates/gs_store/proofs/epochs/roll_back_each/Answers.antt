use Rattle.std.proofs.Common.{arith}
use Rattle.gs_store.specs.Learning.{rolled_back}
use Rattle.gs_store.proofs.Loops.{next_done}
use Rattle.gs_store.proofs.epochs.roll_back_each.Goals as goal

pub loop-place-preserved : goal.loop-place-preserved
loop-place-preserved c = next_done (rolled_back c.args.epoch) c.loop-place.place c.args.slots.now c.loop-place.slots _ _ c.loop-place.invariant (omega arith) c.roll_back.ensures.becomes
