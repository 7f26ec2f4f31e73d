use Rattle.gs_cluster_node.specs.inner.Acting.{AllOwn, Routes}
use Rattle.gs_cluster_node.proofs.posting.put_waiting.Given as goal

abbrev pub invariant-loop : goal.invariant-loop
invariant-loop g l = Routes l.fn.me l.fn.log.sent l.fn.ways.items l.ways.items × AllOwn l.fn.me l.fn.log.sent l.waiting.items
