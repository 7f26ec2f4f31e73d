use Rattle.std.proofs.Common.{◌∙◌, refl, sym, ap}
use Rattle.std.proofs.lemmas.List.{nil_from_length}
use Rattle.gs_cluster.specs.inner.Members.{clients_in, cores_of, masters_in, servers_in}
use Rattle.gs_cluster.proofs.Members.{last_alone, the_clients, the_master, the_servers, without_rest}
use Rattle.gs_cluster.proofs.nodes.nodes_from.Goals as goal

pub returns : goal.returns
returns g c n config are =
    let rest = c.loop-member.member-iterator.rest in
    let nil = nil_from_length rest.items (sym rest.ok.0 ∙ c.in-None.ensures.steps.0) in
    let masters = without_rest g.row.D.Denot masters_in c.loop-member.masters.items (masters_in (cores_of c.args.members.items)) rest.items nil c.loop-member.invariant.0 refl in
    let servers = without_rest g.row.D.Denot servers_in c.loop-member.servers.items (servers_in (cores_of c.args.members.items)) rest.items nil c.loop-member.invariant.1 refl in
    let clients = without_rest g.row.D.Denot clients_in c.loop-member.clients.items (clients_in (cores_of c.args.members.items)) rest.items nil c.loop-member.invariant.2 refl in
    let one = sym c.in-Some-pop.ensures.items ∙ masters ∙ ap masters_in are ∙ the_master g.row.D.Denot n.master n.servers n.clients in
    let master = last_alone c.pop.new.self.items c.in-Some-pop.master n.master one in
    let ss = servers ∙ ap servers_in are ∙ the_servers g.row.D.Denot n.servers n.clients in
    let cs = clients ∙ ap clients_in are ∙ the_clients g.row.D.Denot n.servers n.clients in
    let sizes = sym config in
    λ i. record { config = sizes i; master = master i; servers = ss i; clients = cs i }
