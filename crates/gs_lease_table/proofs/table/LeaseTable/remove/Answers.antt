use Rattle.std.proofs.Common.{Some, subst}
use Rattle.std.specs.Ordering.{nat_cmp}
use Rattle.gs_base_table.specs.Slots.{GivesUpRoom, live}
use Rattle.gs_lease_table.proofs.Changed.{fewer_tell, has_counted, some_brief, still_tally, without_one}
use Rattle.gs_lease_table.proofs.Grouped.{still_grouped, taken}
use Rattle.gs_lease_table.proofs.table.LeaseTable.remove.Goals as goal

pub invariant_of-self : goal.invariant_of-self
invariant_of-self c = (
  still_tally (live nat_cmp c.self.inside.leases) _ _ c.args.chunk c.in_err-lease.ensures.value c.remove.ensures.removed c.self.invariant.0,
  fewer_tell (live nat_cmp c.self.inside.leases) _ c.args.chunk c.remove.ensures.removed c.self.invariant.1,
  still_grouped (live nat_cmp c.self.inside.leases) _ _ c.args.chunk c.in_err-lease.ensures.value c.remove.ensures.removed c.self.invariant.2,
)

pub returns-in_err-lease-clause-room : goal.returns-in_err-lease-clause-room
returns-in_err-lease-clause-room c = subst (λ t. GivesUpRoom nat_cmp t c.remove.new.self c.args.chunk) c.self.view_is c.remove.ensures.room

pub subtract-requires : goal.subtract-requires
subtract-requires c = has_counted (live nat_cmp c.self.inside.leases) _ c.args.chunk (Some c.in_ok-lease.lease) _ (some_brief c.of.result c.in_ok-lease.lease c.of.ensures) c.in_ok-lease.ensures.value c.self.invariant.0

pub invariant_of-self-2 : goal.invariant_of-self-2
invariant_of-self-2 c = (
  without_one (live nat_cmp c.self.inside.leases) _ c.self.inside.tally c.subtract.new.self c.args.chunk c.in_ok-lease.lease c.of.result c.of.ensures c.in_ok-lease.ensures.value c.remove.ensures.removed c.subtract.ensures c.self.invariant.0,
  fewer_tell (live nat_cmp c.self.inside.leases) _ c.args.chunk c.remove.ensures.removed c.self.invariant.1,
  taken (live nat_cmp c.self.inside.leases) _ c.args.chunk c.in_ok-lease.lease c.of.result c.self.inside.groups.sets.items c.exchange.new.self.sets.items c.of.ensures c.in_ok-lease.ensures.value c.remove.ensures.removed c.exchange.ensures c.self.invariant.2,
)

pub returns-clause-room : goal.returns-clause-room
returns-clause-room c = subst (λ t. GivesUpRoom nat_cmp t c.remove.new.self c.args.chunk) c.self.view_is c.remove.ensures.room
