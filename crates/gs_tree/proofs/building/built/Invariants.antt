use Rattle.gs_tree.specs.Find.{at}
use Rattle.gs_tree.specs.Build.{row_of_entry, rows_of_entries}
use Rattle.gs_tree.specs.inner.Building.{IsFilled}
use Rattle.gs_tree.proofs.building.built.Given as goal

abbrev pub invariant-loop-most : goal.invariant-loop-most
invariant-loop-most l = IsFilled (row_of_entry l.first) (rows_of_entries l.entries) l.most (at l.root)
