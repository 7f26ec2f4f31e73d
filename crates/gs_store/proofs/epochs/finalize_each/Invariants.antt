use Rattle.std.proofs.Common.{◌≡◌}
use Rattle.gs_store.specs.Learning.{finalized}
use Rattle.gs_store.proofs.Loops.{done}
use Rattle.gs_store.proofs.epochs.finalize_each.Given as goal

abbrev pub invariant-loop-place : goal.invariant-loop-place
invariant-loop-place l = l.slots ≡ done finalized l.place l.fn.slots
