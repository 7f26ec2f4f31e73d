use Rattle.std.proofs.Common.{◌≡◌, ◌++◌, not}
use Rattle.std.specs.Prelude.{filter_map}
use Rattle.gs_master_spec.specs.Durable.{is_listed}
use Rattle.gs_master_state.specs.inner.Recorded.{durable_of}
use Rattle.gs_master_state.specs.inner.Surveying.{settled_where}
use Rattle.gs_master_state.proofs.recorded.Recorded.unlisted.Given as goal

abbrev pub invariant-loop-chunk : goal.invariant-loop-chunk
invariant-loop-chunk l =
    l.unlisted.items ++ filter_map (settled_where (λ chunk. not (is_listed (durable_of l.self) chunk))) l.chunk-iterator ≡ filter_map (settled_where (λ chunk. not (is_listed (durable_of l.self) chunk))) l.initial.chunk-iterator
