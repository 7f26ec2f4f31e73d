use Rattle.std.proofs.Common.{◌≡◌, ◌++◌, ℕ, map}
use Rattle.gs_master_spec.specs.Handling.{proposals}
use Rattle.gs_master_plan.specs.inner.Planning.{state_of}
use Rattle.gs_master_spec.specs.declared.asking.Asking.{Asking}
use Rattle.gs_master_plan.proofs.standing.Standing.proposals.Given as goal

abbrev pub invariant-loop-chunk : goal.invariant-loop-chunk
invariant-loop-chunk l = l.asked.items ++ map (λ (e : ℕ × Asking). (e.0, e.1.stamp)) l.chunk-iterator ≡ proposals (state_of l.self)
