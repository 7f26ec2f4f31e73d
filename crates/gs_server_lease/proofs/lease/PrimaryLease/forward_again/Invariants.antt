use Rattle.std.proofs.Common.{◌≡◌, ◌++◌, map, length, None}
use Rattle.std.specs.Prelude.{filter}
use Rattle.gs_server_lease.specs.Leases.{forward_of, forwards_again, lacks}
use Rattle.gs_server_lease.proofs.lease.PrimaryLease.forward_again.Given as goal

abbrev pub invariant-loop-server : goal.invariant-loop-server
invariant-loop-server l = l.sent.items ++ map (forward_of l.me l.handle l.self None (l.number, l.edit)) (filter (lacks l.self.told l.number) l.left) ≡ l.fn.sent.items ++ forwards_again l.me l.handle l.self (l.number, l.edit)

abbrev pub decreases-loop-server : goal.decreases-loop-server
decreases-loop-server l = length l.left
