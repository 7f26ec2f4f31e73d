use Rattle.std.proofs.Common.{◌≡◌, ◌++◌, map}
use Rattle.gs_master_spec.specs.Whole.{prepared_entry}
use Rattle.gs_master_state.proofs.recorded.Recorded.prepared_views.Given as goal

abbrev pub invariant-loop-handle : goal.invariant-loop-handle
invariant-loop-handle l = l.views.items ++ map prepared_entry l.handle-iterator ≡ map prepared_entry l.initial.handle-iterator
