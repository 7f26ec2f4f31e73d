use Rattle.std.proofs.Common.{◌≡◌, drop}
use Rattle.std.specs.List.{list_any}
use Rattle.gs_master_plan.specs.inner.Planning.{state_of}
use Rattle.gs_master_spec.specs.Working.{is_wanted_at}
use Rattle.gs_master_plan.proofs.standing.Standing.is_any_wanted.Given as goal

abbrev pub invariant-loop-chunk : goal.invariant-loop-chunk
invariant-loop-chunk l = list_any (is_wanted_at (state_of l.self)) (drop l.chunk-index l.chunks) ≡ list_any (is_wanted_at (state_of l.self)) l.chunks
