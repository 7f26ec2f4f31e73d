use Rattle.std.proofs.Common.{◌≡◌, drop}
use Rattle.gs_master_spec.specs.Durable.{prepared_view}
use Rattle.gs_master_state.specs.inner.Recorded.{durable_of}
use Rattle.gs_master_spec.specs.Whole.{are_all_prepared}
use Rattle.gs_master_state.proofs.recorded.Recorded.are_all_prepared.Given as goal

abbrev pub invariant-loop-entry : goal.invariant-loop-entry
invariant-loop-entry l = are_all_prepared (prepared_view (durable_of l.self)) (drop l.entry-index l.entry-items) ≡ are_all_prepared (prepared_view (durable_of l.self)) l.entry-items
