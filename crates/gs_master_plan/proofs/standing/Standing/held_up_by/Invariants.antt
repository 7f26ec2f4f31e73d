use Rattle.std.proofs.Common.{◌≡◌, true}
use Rattle.std.specs.Prelude.{IfSome}
use Rattle.gs_master_plan.specs.inner.Holding.{holds_up}
use Rattle.gs_master_plan.specs.inner.Planning.{state_of}
use Rattle.gs_master_plan.proofs.standing.Standing.held_up_by.Given as goal

abbrev pub invariant-loop-entry : goal.invariant-loop-entry
invariant-loop-entry l = IfSome l.found (λ file. holds_up (state_of l.self) l.from file.now ≡ true)
