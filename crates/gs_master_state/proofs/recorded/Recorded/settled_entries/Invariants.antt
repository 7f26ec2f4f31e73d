use Rattle.std.proofs.Common.{◌≡◌, ◌++◌}
use Rattle.std.specs.Prelude.{filter_map}
use Rattle.gs_master_state.specs.Checkpoints.{listed_entry}
use Rattle.gs_master_spec.specs.Durable.{is_listed}
use Rattle.gs_master_state.specs.inner.Recorded.{durable_of}
use Rattle.gs_master_state.proofs.recorded.Recorded.settled_entries.Given as goal

abbrev pub invariant-loop-handle : goal.invariant-loop-handle
invariant-loop-handle l = l.listed.items ++ filter_map (listed_entry (is_listed (durable_of l.self))) l.handle-iterator ≡ filter_map (listed_entry (is_listed (durable_of l.self))) l.initial.handle-iterator
