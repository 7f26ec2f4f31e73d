use Rattle.gs_tree.specs.Build.{rows_of_entries}
use Rattle.gs_tree.proofs.Entering.{Entered}
use Rattle.gs_tree.proofs.node.Node.+list_below.Given as goal

abbrev pub invariant-loop-name : goal.invariant-loop-name
invariant-loop-name l = Entered l.path l.initial.name-iterator l.name-iterator (rows_of_entries l.initial.listed.items) (rows_of_entries l.listed.items)
