use Rattle.gs_tree.proofs.Reaching.{node_blank_file}
use Rattle.gs_tree.proofs.node.Node.file.Goals as goal

pub invariant_of-result : goal.invariant_of-result
invariant_of-result c = node_blank_file c.in_ok-from_slice.field-0
