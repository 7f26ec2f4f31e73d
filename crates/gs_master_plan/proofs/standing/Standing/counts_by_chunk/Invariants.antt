use Rattle.std.proofs.Common.{◌≡◌, ◌+◌, ◌<◌, ◌≤◌, ℕ, length}
use Rattle.std.specs.Prelude.{filter_map, slice_index}
use Rattle.gs_master_spec.specs.Beginning.{replicas_on}
use Rattle.gs_master_spec.specs.Beginning.{is_counted}
use Rattle.gs_master_plan.specs.inner.Planning.{state_of}
use Rattle.gs_master_state.specs.inner.Surveying.{view_where}
use Rattle.gs_master_plan.proofs.standing.Standing.counts_by_chunk.Given as goal

abbrev pub invariant-loop-chunk : goal.invariant-loop-chunk
invariant-loop-chunk l = record {
  bound : (k : ℕ) → k < 16 → slice_index l.counts k + length l.chunk-iterator ≤ length l.initial.chunk-iterator;
  counted : (k : ℕ) → k < 16 → slice_index l.counts k + replicas_on (filter_map (view_where (is_counted (state_of l.self))) l.chunk-iterator) k ≡ replicas_on (filter_map (view_where (is_counted (state_of l.self))) l.initial.chunk-iterator) k;
}
