use Rattle.std.proofs.Common.{deque_items, map}
use Rattle.gs_msg.specs.Posts.{Posted}
use Rattle.gs_cluster_notes.proofs.Noting.{Parted}
use Rattle.gs_cluster_notes.proofs.telling.parts_of.Given as goal

abbrev pub invariant-loop-one : goal.invariant-loop-one
invariant-loop-one l = Parted l.fn.notes.items l.one-iterator.rest.items (map deque_items l.lists.items) (map (λ (o : Posted). o.posts) l.outboxes.items)
