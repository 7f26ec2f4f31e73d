use Rattle.std.proofs.Common.{◌≡◌, ◌≤◌, deque_items, drop, length, map}
use Rattle.gs_cluster_notes.specs.inner.Firsts.{first_in}
use Rattle.gs_cluster_notes.proofs.merging.first_of.Given as goal

abbrev pub invariant-loop-at : goal.invariant-loop-at
invariant-loop-at l = (l.at ≤ length l.lists.items) × (l.first ≡ first_in l.at (drop l.at (map deque_items l.lists.items)))

abbrev pub decreases-loop-at : goal.decreases-loop-at
decreases-loop-at l = l.at
