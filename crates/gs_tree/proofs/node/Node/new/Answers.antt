use Rattle.std.proofs.Common.{subst, sym}
use Rattle.gs_tree.specs.Rows.{IsNode}
use Rattle.gs_tree.proofs.Reaching.{node_blank_dir, node_blank_file}
use Rattle.gs_tree.proofs.node.Node.new.Goals as goal
use Rattle.gs_tree.proofs.node.Node.new.Goals.{in-Dir, in-File}

pub invariant_of-result : goal.invariant_of-result
invariant_of-result c = elim c.match-leaf.branch [
  | in-Dir w ↦ subst (IsNode 0) (sym w.kind-is) (node_blank_dir w.new.result w.new.ensures.empty w.new.ensures.ordered)
  | in-File w ↦ subst (IsNode 0) (sym w.kind-is) (node_blank_file w.new-in-File.result)
]
