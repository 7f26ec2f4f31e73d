use Rattle.std.proofs.Common.{length}
use Rattle.gs_tree.proofs.node.Node.+replace.Given as goal

abbrev pub decreases-replace : goal.decreases-replace
decreases-replace l = length l.path.now
