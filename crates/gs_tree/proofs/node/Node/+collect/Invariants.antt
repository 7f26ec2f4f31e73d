use Rattle.gs_tree.proofs.Gathering.{Gathered}
use Rattle.gs_tree.proofs.node.Node.+collect.Given as goal

abbrev pub invariant-loop-name : goal.invariant-loop-name
invariant-loop-name l = Gathered l.all l.initial.name-iterator l.name-iterator l.initial.found.items l.found.items
