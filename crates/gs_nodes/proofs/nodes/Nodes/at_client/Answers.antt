use Rattle.std.proofs.Common.{None, Some}
use Rattle.gs_nodes.proofs.Finding.{client_missing, client_there}
use Rattle.gs_nodes.specs.Happenings.{ClientHears}
use Rattle.gs_nodes.specs.Nodes.{nodes_of}
use Rattle.gs_nodes.proofs.nodes.Nodes.at_client.Goals as goal

pub returns-in-Ok : goal.returns-in-Ok
returns-in-Ok g c =
    client_there c.args.client None (ClientHears c.args.body) (nodes_of c.args.self.now) c.if-client-eq0.false c.in-Some.node.now c.hear.new.self None c.in-Some.ensures.item.3.0
    c.in-Some.ensures.item.1 c.in-Ok.ensures

pub returns-in-Err : goal.returns-in-Err
returns-in-Err g c =
    client_there c.args.client None (ClientHears c.args.body) (nodes_of c.args.self.now) c.if-client-eq0.false c.in-Some.node.now c.hear.new.self (Some c.in-Err.refusal)
    c.in-Some.ensures.item.3.0 c.in-Some.ensures.item.1 c.in-Err.ensures

pub returns-in-None : goal.returns-in-None
returns-in-None g c = client_missing c.args.client None (ClientHears c.args.body) (nodes_of c.args.self.now) c.if-client-eq0.false c.in-None.ensures.item.3
