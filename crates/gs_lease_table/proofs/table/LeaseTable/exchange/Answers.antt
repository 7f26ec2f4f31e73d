use Rattle.std.proofs.Common.{◌∙◌, ap, subst}
use Rattle.std.specs.Ordering.{nat_cmp}
use Rattle.std.specs.FinMap as fin
use Rattle.gs_base_table.specs.Slots.{KeepsRoom, live}
use Rattle.gs_lease_table.proofs.Changed.{can_count, exchanged_one, has_counted, one_more_tells, the_taken_tells}
use Rattle.gs_lease_table.proofs.Grouped.{put_in}
use Rattle.gs_lease_table.proofs.table.LeaseTable.exchange.Goals as goal

pub exchange-requires-clause-room : goal.exchange-requires-clause-room
exchange-requires-clause-room c = can_count (fin.entries (live nat_cmp c.self.inside.leases)) _ c.are_few.ensures c.self.invariant.0

pub exchange-requires-clause-counted : goal.exchange-requires-clause-counted
exchange-requires-clause-counted c = has_counted (live nat_cmp c.self.inside.leases) _ c.args.chunk c.replace-stood.result _ c.told_briefly-before.ensures c.replace-stood.ensures.value c.self.invariant.0

pub invariant_of-self : goal.invariant_of-self
invariant_of-self c = (
  exchanged_one (live nat_cmp c.self.inside.leases) _ c.self.inside.tally c.exchange.new.self c.args.chunk c.replace-stood.result c.args.lease c.told_briefly-before.result c.of.result c.told_briefly-before.ensures c.of.ensures c.replace-stood.ensures.value c.replace-stood.ensures.put c.exchange.ensures c.self.invariant.0,
  one_more_tells (live nat_cmp c.self.inside.leases) _ c.args.chunk c.args.lease c.replace-stood.ensures.put c.requires.settled c.self.invariant.1,
  put_in (live nat_cmp c.self.inside.leases) _ c.args.chunk c.replace-stood.result c.args.lease c.told_briefly-before.result c.of.result c.self.inside.groups.sets.items c.exchange-2.new.self.sets.items c.told_briefly-before.ensures c.of.ensures c.replace-stood.ensures.value c.replace-stood.ensures.put c.exchange-2.ensures c.self.invariant.2,
)

pub returns-clause-put : goal.returns-clause-put
returns-clause-put c = c.replace-stood.ensures.put ∙ ap (λ t. fin.insert (live nat_cmp t) c.args.chunk c.args.lease) c.self.view_is

pub returns-clause-keeps : goal.returns-clause-keeps
returns-clause-keeps c = subst (λ t. KeepsRoom nat_cmp t c.replace-stood.new.self) c.self.view_is c.replace-stood.ensures.keeps

pub returns-clause-stood : goal.returns-clause-stood
returns-clause-stood c = the_taken_tells (live nat_cmp c.self.inside.leases) c.args.chunk _ c.replace-stood.ensures.value c.self.invariant.1
