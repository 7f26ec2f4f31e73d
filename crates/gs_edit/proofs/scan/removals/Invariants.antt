use Rattle.std.proofs.Common.{◌≡◌, ◌++◌, map, filter, drop}
use Rattle.gs_tree.specs.Build.{path_of_entry}
use Rattle.gs_edit.specs.Scan.{goes}
use Rattle.gs_edit.proofs.scan.removals.Given as goal

abbrev pub invariant-loop-entry : goal.invariant-loop-entry
invariant-loop-entry l = l.found.items ++ filter (goes l.moment.0) (map path_of_entry (drop l.entry-index l.entries)) ≡ filter (goes l.moment.0) (map path_of_entry l.entries)
