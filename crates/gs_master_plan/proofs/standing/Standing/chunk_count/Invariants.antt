use Rattle.std.proofs.Common.{◌≡◌, ◌+◌, ◌≤◌, length, min}
use Rattle.std.specs.Prelude.{filter_map}
use Rattle.gs_refs.specs.Counts.{last_count}
use Rattle.gs_master_spec.specs.Chunks.{has_entry}
use Rattle.gs_master_plan.specs.inner.Planning.{state_of}
use Rattle.gs_master_state.specs.inner.Surveying.{settled_where}
use Rattle.gs_master_plan.proofs.standing.Standing.chunk_count.Given as goal

abbrev pub invariant-loop-chunk : goal.invariant-loop-chunk
invariant-loop-chunk l = record {
  counted : min (l.count + length (filter_map (settled_where (has_entry (state_of l.self))) l.chunk-iterator)) last_count ≡ min (length (filter_map (settled_where (has_entry (state_of l.self))) l.initial.chunk-iterator)) last_count;
  small : l.count ≤ last_count;
}
