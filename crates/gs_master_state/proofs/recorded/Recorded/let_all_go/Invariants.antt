use Rattle.std.proofs.Common.{◌≡◌, List}
use Rattle.std.specs.Prelude.{ℕ, Option}
use Rattle.std.specs.Ordering.{nat_cmp}
use Rattle.gs_base_table.specs.Slots.{live}
use Rattle.gs_lease.specs.declared.lease.Lease.{Lease}
use Rattle.gs_master_state.specs.inner.Recorded.{durable_of}
use Rattle.gs_master_state.specs.inner.Released.{ReleasesEach, all_forgotten}
use Rattle.gs_master_state.proofs.recorded.Recorded.let_all_go.Given as goal

abbrev pub invariant-loop-undo : goal.invariant-loop-undo
invariant-loop-undo l = record {
  value : durable_of l.self ≡ durable_of l.fn.self;
  leases : live nat_cmp l.self.leases ≡ live nat_cmp l.fn.self.leases;
  room : (slots : List (ℕ × Option Lease)) → live nat_cmp slots ≡ live nat_cmp l.self.leases → ReleasesEach l.self.leases slots (all_forgotten l.undos.items) → ReleasesEach l.fn.self.leases slots (all_forgotten l.fn.undos.items);
}

abbrev pub decreases-loop-undo : goal.decreases-loop-undo
decreases-loop-undo l = goal.left-loop-undo l
