use Rattle.std.proofs.Common.{◌≡◌, ◌+◌}
use Rattle.gs_cluster_node.specs.inner.Acting.{AllOwn}
use Rattle.gs_cluster_node.proofs.posting.copies_of.Given as goal

abbrev pub invariant-loop-at : goal.invariant-loop-at
invariant-loop-at l = AllOwn l.fn.me l.fn.log.sent l.copies.items × (l.number ≡ l.fn.first + l.at)
