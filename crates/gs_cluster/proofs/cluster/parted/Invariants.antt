use Rattle.std.specs.Prelude.{◌≡◌, ◌≤◌, ◌<◌, ◌++◌, [], length}
use Rattle.gs_cluster.proofs.cluster.parted.Given as goal

abbrev pub invariant-loop-item : goal.invariant-loop-item
invariant-loop-item g l =
    (l.first.items ++ (l.rest.items ++ l.item-iterator.rest.items) ≡ l.fn.items.items) × (length l.first.items ≤ l.many) × (length l.first.items < l.many → l.rest.items ≡ [])
