use Rattle.std.proofs.Common.{◌≡◌, ◌++◌, true}
use Rattle.std.specs.Prelude.{filter_map}
use Rattle.gs_master_state.specs.inner.Surveying.{settled_where}
use Rattle.gs_master_plan.proofs.standing.Standing.settled_chunks.Given as goal

abbrev pub invariant-loop-chunk : goal.invariant-loop-chunk
invariant-loop-chunk l = l.chunks.items ++ filter_map (settled_where (λ chunk. true)) l.chunk-iterator ≡ filter_map (settled_where (λ chunk. true)) l.initial.chunk-iterator
