use Rattle.std.proofs.Common.{◌≡◌, length, not}
use Rattle.std.specs.List.{list_all}
use Rattle.gs_server_lease.specs.Leases.{lacks}
use Rattle.gs_server_lease.proofs.lease.ToldCounts.reach.Given as goal

abbrev pub invariant-loop-server : goal.invariant-loop-server
invariant-loop-server l = list_all (λ server. not (lacks l.self l.number server)) l.left ≡ list_all (λ server. not (lacks l.self l.number server)) l.fn.members

abbrev pub decreases-loop-server : goal.decreases-loop-server
decreases-loop-server l = length l.left
