use Rattle.std.proofs.Common.{◌≡◌, drop}
use Rattle.std.specs.List.{list_all}
use Rattle.gs_master_plan.specs.inner.Planning.{state_of}
use Rattle.gs_master_spec.specs.Settling.{is_quiet_at}
use Rattle.gs_master_plan.proofs.standing.Standing.are_quiet.Given as goal

abbrev pub invariant-loop-chunk : goal.invariant-loop-chunk
invariant-loop-chunk l = list_all (is_quiet_at (state_of l.self)) (drop l.chunk-index l.chunks) ≡ list_all (is_quiet_at (state_of l.self)) l.chunks
