use Rattle.std.proofs.Common.{◌≡◌, ◌≤◌, length, drop}
use Rattle.std.specs.Prelude.{None, option_map, string_bytes}
use Rattle.gs_master_state.specs.inner.Judging.{lower_each}
use Rattle.gs_master_spec.specs.Upgrades.{pending_paths}
use Rattle.gs_master_state.proofs.memory.Memory.lowest_pending.Given as goal

abbrev pub invariant-loop-left : goal.invariant-loop-left
invariant-loop-left l =
    (l.left ≤ length l.self.pending.items) × (option_map string_bytes l.lowest ≡ lower_each (pending_paths (drop l.left l.self.pending.items)) None)

abbrev pub decreases-loop-left : goal.decreases-loop-left
decreases-loop-left l = l.left
