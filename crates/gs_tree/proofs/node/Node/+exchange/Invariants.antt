use Rattle.std.proofs.Common.{length}
use Rattle.gs_tree.proofs.node.Node.+exchange.Given as goal

abbrev pub decreases-exchange : goal.decreases-exchange
decreases-exchange l = length l.path.now
