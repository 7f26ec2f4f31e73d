use Rattle.std.proofs.Common.{◌≡◌, drop}
use Rattle.gs_tree.specs.Build.{rows_of_entries}
use Rattle.gs_master_spec.specs.Whole.{are_hidden_once}
use Rattle.gs_master_state.proofs.checkpoint.are_hidden_once.Given as goal

abbrev pub invariant-loop-entry : goal.invariant-loop-entry
invariant-loop-entry l = are_hidden_once (rows_of_entries (drop l.entry-index l.entry-items)) ≡ are_hidden_once (rows_of_entries l.entry-items)
