use Rattle.gs_cluster_node.specs.inner.Acting.{Routes}
use Rattle.gs_cluster_node.proofs.posting.put_again.Given as goal

abbrev pub invariant-loop-at : goal.invariant-loop-at
invariant-loop-at g l = Routes l.fn.me l.fn.log.sent l.fn.ways.items l.ways.items
