use Rattle.std.proofs.Common.{◌<◌}
use Rattle.gs_cluster_node.specs.Nodes.{last_clock}
use Rattle.gs_cluster_node.specs.inner.Acting.{AllOwn, AreAt, Routes}
use Rattle.gs_cluster_node.proofs.posting.put_all.Given as goal

abbrev pub invariant-loop-message : goal.invariant-loop-message
invariant-loop-message g l =
    Routes l.fn.me l.fn.log.sent l.fn.ways.items l.ways.items × (l.place < last_clock → AreAt l.fn.log.sent l.place l.fn.clock l.fn.moment l.message-iterator.rest.items)
    × AllOwn l.fn.me l.fn.log.sent l.waiting.items
