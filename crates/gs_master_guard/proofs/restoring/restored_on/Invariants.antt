use Rattle.std.proofs.Common.{◌≡◌, ◌&&◌}
use Rattle.std.specs.Prelude.{nat_lt}
use Rattle.gs_base.specs.Members.{servers_where, is_member}
use Rattle.gs_master_spec.specs.Applied.{is_prepared_on}
use Rattle.gs_master_guard.proofs.restoring.restored_on.Given as goal

abbrev pub invariant-loop-number : goal.invariant-loop-number
invariant-loop-number l = l.servers ≡ servers_where (λ s. nat_lt s l.number && (is_member l.told s && is_prepared_on l.prepared s))
