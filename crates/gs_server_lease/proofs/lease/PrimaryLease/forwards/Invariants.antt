use Rattle.std.proofs.Common.{◌≡◌, ◌++◌, ◌==◌, map, length, not, None}
use Rattle.std.specs.Prelude.{filter}
use Rattle.gs_server_lease.specs.Leases.{forward_of, forwards}
use Rattle.gs_server_lease.proofs.lease.PrimaryLease.forwards.Given as goal

abbrev pub invariant-loop-server : goal.invariant-loop-server
invariant-loop-server l = l.sent.items ++ map (forward_of l.me l.handle l.self None (l.number, l.edit)) (filter (λ server. not (server == l.me)) l.left) ≡ l.fn.sent.items ++ forwards l.me l.handle l.self (l.number, l.edit)

abbrev pub decreases-loop-server : goal.decreases-loop-server
decreases-loop-server l = length l.left
