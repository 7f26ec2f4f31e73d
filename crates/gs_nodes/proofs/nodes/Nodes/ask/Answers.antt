use Rattle.std.proofs.Common.{Err}
use Rattle.gs_base.specs.declared.refusal.Refusal.TheVariants as refusals
use Rattle.gs_nodes.proofs.Finding.{client_missing, client_there}
use Rattle.gs_nodes.specs.Happenings.{ClientAsks}
use Rattle.gs_nodes.specs.Nodes.{nodes_of}
use Rattle.gs_nodes.proofs.nodes.Nodes.ask.Goals as goal

pub returns-in-Some : goal.returns-in-Some
returns-in-Some g c =
    client_there c.args.req.client (Err refusals.Range) (ClientAsks c.args.req.number c.args.request) (nodes_of c.args.self.now) c.if-req-eq0.false c.in-Some.node.now c.ask.new.self c.ask.result
    c.in-Some.ensures.item.3.0 c.in-Some.ensures.item.1 c.ask.ensures

pub returns-in-None : goal.returns-in-None
returns-in-None g c =
    client_missing c.args.req.client (Err refusals.Range) (ClientAsks c.args.req.number c.args.request) (nodes_of c.args.self.now) c.if-req-eq0.false c.in-None.ensures.item.3
