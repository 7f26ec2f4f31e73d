use Rattle.gs_tree.proofs.Copying.{CopiedFrom}
use Rattle.gs_tree.proofs.node.Node.+copy_kept.Given as goal

abbrev pub invariant-loop-name : goal.invariant-loop-name
invariant-loop-name l = CopiedFrom l.all l.initial.name-iterator l.name-iterator l.copies
