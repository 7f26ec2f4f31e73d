use Rattle.std.proofs.Common.{arith, sym}
use Rattle.gs_base_table.specs.Slots.{live}
use Rattle.std.specs.Ordering.{nat_cmp}
use Rattle.gs_lease_table.specs.Tallies.{one_on, one_primary}
use Rattle.gs_lease_table.proofs.Changed.{no_lease_tells, none_counted}
use Rattle.gs_lease_table.proofs.Grouped.{none_grouped}
use Rattle.gs_lease_table.proofs.table.LeaseTable.new.Goals as goal

pub invariant_of-result : goal.invariant_of-result
invariant_of-result c = (
  record {
    replicas = record { each = λ server low. let none = none_counted (live nat_cmp c.new.result) (one_on server) c.new.ensures in rw none (grind arith) };
    primaries = sym (none_counted (live nat_cmp c.new.result) one_primary c.new.ensures);
  },
  no_lease_tells (live nat_cmp c.new.result) c.new.ensures,
  none_grouped (live nat_cmp c.new.result) _ c.new.ensures c.new-2.ensures,
)
