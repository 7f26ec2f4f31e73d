use Rattle.std.specs.Prelude.{◌≡◌, ◌++◌}
use Rattle.gs_cluster.specs.inner.Members.{clients_in, cores_of, masters_in, servers_in}
use Rattle.gs_cluster.proofs.nodes.nodes_from.Given as goal

abbrev pub invariant-loop-member : goal.invariant-loop-member
invariant-loop-member g l =
    (l.masters.items ++ masters_in (cores_of l.member-iterator.rest.items) ≡ masters_in (cores_of l.fn.members.items))
    × (l.servers.items ++ servers_in (cores_of l.member-iterator.rest.items) ≡ servers_in (cores_of l.fn.members.items))
    × (l.clients.items ++ clients_in (cores_of l.member-iterator.rest.items) ≡ clients_in (cores_of l.fn.members.items))
