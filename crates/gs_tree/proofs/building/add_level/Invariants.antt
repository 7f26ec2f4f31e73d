use Rattle.std.proofs.Common.{drop}
use Rattle.gs_tree.specs.Find.{at}
use Rattle.gs_tree.specs.Build.{row_of_entry, rows_of_entries}
use Rattle.gs_tree.proofs.Levels.{Filling}
use Rattle.gs_tree.proofs.building.add_level.Given as goal

abbrev pub invariant-loop-entry : goal.invariant-loop-entry
invariant-loop-entry l = Filling (row_of_entry l.first) (rows_of_entries l.entries) (rows_of_entries (drop l.entry-index l.entries)) l.most (at l.root)
