use Rattle.std.proofs.Common.{length}
use Rattle.gs_store_image.proofs.Kept.{Kept}
use Rattle.gs_store_image.proofs.store.keep_each.Given as goal

abbrev pub invariant-loop-handle : goal.invariant-loop-handle
invariant-loop-handle l = Kept l.fn.slots.items l.fn.store l.left.items l.store

abbrev pub decreases-loop-handle : goal.decreases-loop-handle
decreases-loop-handle l = length l.left.items
