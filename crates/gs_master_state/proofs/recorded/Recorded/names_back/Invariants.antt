use Rattle.std.proofs.Common.{◌≡◌, ◌≤◌, Some, drop, length}
use Rattle.gs_master_state.proofs.Takings.{back_to}
use Rattle.gs_master_state.proofs.recorded.Recorded.names_back.Given as goal

abbrev pub invariant-loop-left : goal.invariant-loop-left
invariant-loop-left l = record {
  bound : l.left ≤ length l.self.inverses.items;
  back : back_to (drop l.left l.self.inverses.items) l.self.names.names ≡ Some l.names;
}

abbrev pub decreases-loop-left : goal.decreases-loop-left
decreases-loop-left l = l.left
