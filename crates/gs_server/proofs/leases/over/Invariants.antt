use Rattle.std.proofs.Common.{◌≡◌, ◌++◌}
use Rattle.std.specs.FinMap as fin
use Rattle.std.specs.Ordering.{nat_cmp}
use Rattle.gs_base_table.specs.Slots.{live}
use Rattle.gs_server.specs.inner.Spending.{over_of}
use Rattle.gs_server.proofs.leases.over.Given as goal

abbrev pub invariant-loop-handle : goal.invariant-loop-handle
invariant-loop-handle l = l.handles.items ++ over_of l.moment l.handle-iterator ≡ over_of l.moment (fin.entries (live nat_cmp l.leases))
