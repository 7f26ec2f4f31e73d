use Rattle.std.proofs.Common.{◌≡◌, ◌++◌}
use Rattle.std.specs.Prelude.{flat_map}
use Rattle.gs_server_lease.specs.Leases.{forwards_again, reminds}
use Rattle.gs_server_lease.proofs.lease.PrimaryLease.remind.Given as goal

abbrev pub invariant-loop-number : goal.invariant-loop-number
invariant-loop-number l = l.sent.items ++ flat_map (forwards_again l.me l.handle l.self) l.number-iterator ≡ l.fn.sent.items ++ reminds l.me l.handle l.self
