use Rattle.std.proofs.Common.{subst}
use Rattle.std.specs.Ordering.{nat_cmp}
use Rattle.gs_base_table.specs.Slots.{KeepsRoom}
use Rattle.gs_lease_table.proofs.table.LeaseTable.reserve.Goals as goal

pub returns-clause-keeps : goal.returns-clause-keeps
returns-clause-keeps c = subst (λ t. KeepsRoom nat_cmp t c.reserve.new.self) c.self.view_is c.reserve.ensures.keeps
