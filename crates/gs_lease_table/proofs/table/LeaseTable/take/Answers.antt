use Rattle.std.proofs.Common.{Some, subst}
use Rattle.std.specs.Ordering.{nat_cmp}
use Rattle.gs_base_table.specs.Slots.{KeepsRoom, live}
use Rattle.gs_lease_table.proofs.Changed.{fewer_tell, has_counted, some_brief, still_tally, the_taken_tells, without_one}
use Rattle.gs_lease_table.proofs.Grouped.{still_grouped, taken}
use Rattle.gs_lease_table.proofs.table.LeaseTable.take.Goals as goal

pub invariant_of-self : goal.invariant_of-self
invariant_of-self c = (
  still_tally (live nat_cmp c.self.inside.leases) _ _ c.args.chunk c.in_err-lease.ensures.value c.take.ensures.taken c.self.invariant.0,
  fewer_tell (live nat_cmp c.self.inside.leases) _ c.args.chunk c.take.ensures.taken c.self.invariant.1,
  still_grouped (live nat_cmp c.self.inside.leases) _ _ c.args.chunk c.in_err-lease.ensures.value c.take.ensures.taken c.self.invariant.2,
)

pub returns-in_err-lease-clause-keeps : goal.returns-in_err-lease-clause-keeps
returns-in_err-lease-clause-keeps c = subst (λ t. KeepsRoom nat_cmp t c.take.new.self) c.self.view_is c.take.ensures.keeps

pub subtract-requires : goal.subtract-requires
subtract-requires c = has_counted (live nat_cmp c.self.inside.leases) _ c.args.chunk (Some c.in_ok-lease.lease) _ (some_brief c.of.result c.in_ok-lease.lease c.of.ensures) c.in_ok-lease.ensures.value c.self.invariant.0

pub invariant_of-self-2 : goal.invariant_of-self-2
invariant_of-self-2 c = (
  without_one (live nat_cmp c.self.inside.leases) _ c.self.inside.tally c.subtract.new.self c.args.chunk c.in_ok-lease.lease c.of.result c.of.ensures c.in_ok-lease.ensures.value c.take.ensures.taken c.subtract.ensures c.self.invariant.0,
  fewer_tell (live nat_cmp c.self.inside.leases) _ c.args.chunk c.take.ensures.taken c.self.invariant.1,
  taken (live nat_cmp c.self.inside.leases) _ c.args.chunk c.in_ok-lease.lease c.of.result c.self.inside.groups.sets.items c.exchange.new.self.sets.items c.of.ensures c.in_ok-lease.ensures.value c.take.ensures.taken c.exchange.ensures c.self.invariant.2,
)

pub returns-clause-keeps : goal.returns-clause-keeps
returns-clause-keeps c = subst (λ t. KeepsRoom nat_cmp t c.take.new.self) c.self.view_is c.take.ensures.keeps

pub returns-clause-stood : goal.returns-clause-stood
returns-clause-stood c = the_taken_tells (live nat_cmp c.self.inside.leases) c.args.chunk _ c.in_ok-lease.ensures.value c.self.invariant.1
