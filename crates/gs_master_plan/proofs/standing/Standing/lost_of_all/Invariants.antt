use Rattle.std.proofs.Common.{◌≡◌, ◌++◌}
use Rattle.std.specs.Prelude.{filter_map}
use Rattle.gs_master_plan.specs.inner.Planning.{state_of}
use Rattle.gs_master_state.specs.inner.Surveying.{is_lost, settled_where}
use Rattle.gs_master_plan.proofs.standing.Standing.lost_of_all.Given as goal

abbrev pub invariant-loop-chunk : goal.invariant-loop-chunk
invariant-loop-chunk l =
    l.lost.items ++ filter_map (settled_where (is_lost (state_of l.self) l.server l.reported)) l.chunk-iterator ≡ filter_map (settled_where (is_lost (state_of l.self) l.server l.reported)) l.initial.chunk-iterator
