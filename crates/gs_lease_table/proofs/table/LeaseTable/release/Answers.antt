use Rattle.std.proofs.Common.{subst, None, ◌≡◌}
use Rattle.std.specs.Ordering.{nat_cmp}
use Rattle.std.specs.FinMap as fin
use Rattle.gs_base_table.specs.Slots.{GivesUpRoom, live}
use Rattle.gs_lease_table.proofs.table.LeaseTable.release.Goals as goal

pub returns-clause-empty : goal.returns-clause-empty
returns-clause-empty c = subst (λ t. fin.get (live nat_cmp t) c.args.chunk ≡ None → GivesUpRoom nat_cmp t c.release.new.self c.args.chunk) c.self.view_is c.release.ensures.empty
