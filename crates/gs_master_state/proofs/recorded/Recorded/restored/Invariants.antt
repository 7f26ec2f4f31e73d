use Rattle.std.proofs.Common.{◌≡◌, ◌≤◌, drop, length}
use Rattle.std.specs.Ordering.{nat_cmp}
use Rattle.gs_base_table.specs.Slots.{live}
use Rattle.gs_master_state.specs.inner.Recorded.{chunks_of, durable_of, restored_chunks}
use Rattle.gs_master_state.proofs.recorded.Recorded.restored.Given as goal

abbrev pub invariant-loop-left : goal.invariant-loop-left
invariant-loop-left l = record {
  bound : l.left ≤ length l.answered;
  chunks : chunks_of (live nat_cmp l.leases) ≡ restored_chunks (durable_of l.self) (drop l.left l.answered);
}

abbrev pub decreases-loop-left : goal.decreases-loop-left
decreases-loop-left l = l.left
