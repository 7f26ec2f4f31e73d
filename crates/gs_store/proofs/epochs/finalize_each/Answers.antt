use Rattle.std.proofs.Common.{arith}
use Rattle.gs_store.specs.Learning.{finalized}
use Rattle.gs_store.proofs.Loops.{next_done}
use Rattle.gs_store.proofs.epochs.finalize_each.Goals as goal

pub loop-place-preserved : goal.loop-place-preserved
loop-place-preserved c = next_done finalized c.loop-place.place c.args.slots.now c.loop-place.slots _ _ c.loop-place.invariant (omega arith) c.finalize.ensures
