use Rattle.std.proofs.Common.{◌≡◌, ◌++◌, not, drop, filter}
use Rattle.gs_master_plan.specs.inner.Planning.{state_of}
use Rattle.gs_master_spec.specs.Settling.{is_quiet_at}
use Rattle.gs_master_plan.proofs.standing.Standing.unquiet_of.Given as goal

abbrev pub invariant-loop-chunk : goal.invariant-loop-chunk
invariant-loop-chunk l =
    l.unquiet.items ++ filter (λ chunk. not (is_quiet_at (state_of l.self) chunk)) (drop l.chunk-index l.chunks) ≡ filter (λ chunk. not (is_quiet_at (state_of l.self) chunk)) l.chunks
