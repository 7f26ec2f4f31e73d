use Rattle.std.proofs.Common.{◌≡◌, ◌≤◌, map, take, length}
use Rattle.gs_store.specs.Learning.{held_in, prepared}
use Rattle.gs_store.proofs.Loops.{left}
use Rattle.gs_store.proofs.epochs.seal_each.Given as goal

abbrev pub invariant-loop-seal : goal.invariant-loop-seal
invariant-loop-seal l =
    (l.made.items ≡ map (λ t. held_in t.live) (take (length l.made.items) l.fn.slots)) × (length l.made.items ≤ length l.fn.slots)
    × (l.slots ≡ left prepared (length l.made.items) l.fn.slots)

abbrev pub decreases-loop-seal : goal.decreases-loop-seal
decreases-loop-seal l = length l.made.items
