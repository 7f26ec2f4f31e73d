use Rattle.std.proofs.Common.{◌≡◌, ◌++◌, List}
use Rattle.std.specs.Prelude.{filter_map}
use Rattle.gs_place.specs.Offered.{IsNeeded}
use Rattle.gs_place.specs.declared.need.Need.{Need}
use Rattle.gs_master_plan.specs.inner.Planning.{state_of}
use Rattle.gs_master_state.specs.inner.Surveying.{need_where}
use Rattle.gs_master_plan.proofs.standing.Standing.most_of_all.Given as goal

abbrev pub invariant-loop-chunk : goal.invariant-loop-chunk
invariant-loop-chunk l =
    (needs : List Need) × (IsNeeded l.config.replicas needs l.needed × (needs ++ filter_map (need_where (state_of l.self)) l.chunk-iterator ≡ filter_map (need_where (state_of l.self)) l.initial.chunk-iterator))
