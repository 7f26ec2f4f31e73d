use Rattle.std.proofs.Common.{◌≡◌, drop, take}
use Rattle.std.specs.Ordering.{nat_cmp}
use Rattle.gs_base_table.specs.Slots.{live}
use Rattle.gs_server.specs.inner.Spending.{GivesUpEach, without}
use Rattle.gs_server.proofs.leases.spend_each.Given as goal

abbrev pub invariant-loop-handle : goal.invariant-loop-handle
invariant-loop-handle l = record {
  spent : without (drop l.handle-index l.handles) (live nat_cmp l.leases) ≡ without l.handles (live nat_cmp l.fn.leases);
  room : GivesUpEach l.fn.leases l.leases (take l.handle-index l.handles);
}
