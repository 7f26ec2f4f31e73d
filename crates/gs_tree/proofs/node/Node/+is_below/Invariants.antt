use Rattle.std.proofs.Common.{◌≡◌, ◌-◌, ◌++◌, List, ℕ}
use Rattle.gs_tree.specs.Find.{Rows}
use Rattle.gs_tree.proofs.Children.{EachBelow}
use Rattle.gs_tree.proofs.node.Node.+is_below.Given as goal

abbrev pub invariant-loop-child : goal.invariant-loop-child
invariant-loop-child l = (front : List (Rows ℕ)) × ((l.initial.child-iterator ≡ front ++ l.child-iterator) × EachBelow (l.limit - 1) front)
