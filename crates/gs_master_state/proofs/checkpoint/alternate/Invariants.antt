use Rattle.std.proofs.Common.{◌≡◌, true, drop}
use Rattle.gs_master_spec.specs.Whole.{alternate}
use Rattle.gs_master_state.proofs.checkpoint.alternate.Given as goal

abbrev pub invariant-loop-end : goal.invariant-loop-end
invariant-loop-end l = alternate l.is_ordinary (drop l.end-index l.past) ≡ alternate true l.past
