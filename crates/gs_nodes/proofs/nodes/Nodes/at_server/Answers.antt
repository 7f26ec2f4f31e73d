use Rattle.std.proofs.Common.{Err, Ok}
use Rattle.gs_server.specs.Servers as servers
use Rattle.gs_nodes.specs.Happenings.{ServerDoes}
use Rattle.gs_nodes.proofs.Finding.{nobody, somebody, turned}
use Rattle.gs_nodes.specs.Nodes.{nodes_of}
use Rattle.gs_nodes.proofs.nodes.Nodes.at_server.Goals as goal

pub returns-in-Ok : goal.returns-in-Ok
returns-in-Ok g c =
    somebody c.args.server (λ s. ServerDoes (servers.handle s c.args.message c.args.moment) s) (nodes_of c.args.self.now) c.number.result c.number.ensures.number c.in-Some.server.now c.handle.new.self (Ok c.turn_of.result)
    c.in-Some.ensures.item.3.0 c.in-Some.ensures.item.1 (turned (servers.handle c.in-Some.server.now c.args.message c.args.moment) c.in-Some.server.now c.handle.new.self c.in-Ok.turn c.turn_of.result c.in-Ok.ensures.step c.turn_of.ensures.sent c.turn_of.ensures.said)

pub returns-in-Err : goal.returns-in-Err
returns-in-Err g c =
    somebody c.args.server (λ s. ServerDoes (servers.handle s c.args.message c.args.moment) s) (nodes_of c.args.self.now) c.number.result c.number.ensures.number c.in-Some.server.now c.handle.new.self (Err c.in-Err.refusal)
    c.in-Some.ensures.item.3.0 c.in-Some.ensures.item.1 (c.in-Err.ensures.step.1, c.in-Err.ensures.step.0)

pub returns-in-None : goal.returns-in-None
returns-in-None g c = nobody c.args.server (λ s. ServerDoes (servers.handle s c.args.message c.args.moment) s) (nodes_of c.args.self.now) c.number.result c.number.ensures.number c.in-None.ensures.item.3
