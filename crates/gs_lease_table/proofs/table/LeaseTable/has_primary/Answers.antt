use Rattle.std.proofs.Common.{ap, ◌∙◌}
use Rattle.std.specs.Prelude.{ℕ}
use Rattle.std.specs.FinMap as fin
use Rattle.std.specs.List.{list_any}
use Rattle.std.specs.Ordering.{nat_cmp}
use Rattle.gs_lease.specs.declared.lease.Lease.{Lease}
use Rattle.gs_base_table.specs.Slots.{live}
use Rattle.gs_lease_table.specs.Tallies.{has_primary}
use Rattle.gs_lease_table.proofs.Changed.{has_any}
use Rattle.gs_lease_table.proofs.table.LeaseTable.has_primary.Goals as goal

pub returns : goal.returns
returns c = has_any (fin.entries (live nat_cmp c.self.inside.leases)) c.self.inside.tally c.self.invariant.0 ∙ ap (λ t. list_any (λ (e : ℕ × Lease). has_primary e.1) (fin.entries (live nat_cmp t))) c.self.view_is
