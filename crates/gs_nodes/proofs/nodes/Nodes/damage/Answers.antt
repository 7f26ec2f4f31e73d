use Rattle.gs_base.specs.Calls.{Does}
use Rattle.gs_server.specs.Servers as servers
use Rattle.gs_nodes.proofs.Finding.{nobody, somebody}
use Rattle.gs_nodes.specs.Nodes.{nodes_of}
use Rattle.gs_nodes.proofs.nodes.Nodes.damage.Goals as goal

pub returns-in-Some : goal.returns-in-Some
returns-in-Some g c =
    somebody c.args.server (λ s result new. Does (servers.damage c.args.handle c.args.block s) result s new) (nodes_of c.args.self.now) c.number.result c.number.ensures.number c.in-Some.server.now c.damage.new.self c.damage.result
    c.in-Some.ensures.item.3.0 c.in-Some.ensures.item.1 c.damage.ensures

pub returns-in-None : goal.returns-in-None
returns-in-None g c = nobody c.args.server (λ s result new. Does (servers.damage c.args.handle c.args.block s) result s new) (nodes_of c.args.self.now) c.number.result c.number.ensures.number c.in-None.ensures.item.3
