use Rattle.std.proofs.Common.{◌≡◌}
use Rattle.gs_store.specs.Learning.{rolled_back}
use Rattle.gs_store.proofs.Loops.{done}
use Rattle.gs_store.proofs.epochs.roll_back_each.Given as goal

abbrev pub invariant-loop-place : goal.invariant-loop-place
invariant-loop-place l = l.slots ≡ done (rolled_back l.epoch) l.place l.fn.slots
