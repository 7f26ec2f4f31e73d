use Rattle.std.proofs.Common.{deque_items, map}
use Rattle.gs_cluster_notes.specs.inner.Firsts.{left_in}
use Rattle.gs_cluster_notes.proofs.Taken.{Merging}
use Rattle.gs_cluster_notes.proofs.merging.merged.Given as goal

abbrev pub invariant-loop-event : goal.invariant-loop-event
invariant-loop-event l = Merging (map deque_items l.fn.lists.items) (map deque_items l.lists.items) l.events.items

abbrev pub decreases-loop-event : goal.decreases-loop-event
decreases-loop-event l = left_in (map deque_items l.lists.items)
