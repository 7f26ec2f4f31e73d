use Rattle.std.proofs.Common.{◌≡◌, ◌++◌}
use Rattle.std.specs.Prelude.{filter_map}
use Rattle.gs_master_plan.specs.inner.Planning.{state_of}
use Rattle.gs_master_state.specs.inner.Surveying.{has_unquiet, settled_where}
use Rattle.gs_master_plan.proofs.standing.Standing.settled_unquiet.Given as goal

abbrev pub invariant-loop-chunk : goal.invariant-loop-chunk
invariant-loop-chunk l =
    l.unquiet.items ++ filter_map (settled_where (has_unquiet (state_of l.self))) l.chunk-iterator ≡ filter_map (settled_where (has_unquiet (state_of l.self))) l.initial.chunk-iterator
