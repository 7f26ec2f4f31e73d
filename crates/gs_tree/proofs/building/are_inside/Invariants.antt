use Rattle.std.proofs.Common.{◌≡◌, drop}
use Rattle.std.specs.List.{list_all}
use Rattle.gs_tree.specs.Build.{rows_of_entries, is_inside}
use Rattle.gs_tree.proofs.building.are_inside.Given as goal

abbrev pub invariant-loop-entry : goal.invariant-loop-entry
invariant-loop-entry l =
    list_all (λ r. is_inside l.least r.0) (rows_of_entries (drop l.entry-index l.entries)) ≡ list_all (λ r. is_inside l.least r.0) (rows_of_entries l.entries)
