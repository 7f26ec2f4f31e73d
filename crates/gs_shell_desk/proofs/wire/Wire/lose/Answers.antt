use Rattle.std.proofs.Common.{refl}
use Rattle.gs_shell_desk.proofs.Doing.{at_one_of}
use Rattle.gs_base.specs.Calls.{Does as DoesAtServer}
use Rattle.gs_server.specs.Servers as servers
use Rattle.gs_nodes.specs.Nodes.{nodes_of}
use Rattle.gs_shell_desk.specs.Ways.{way_of}
use Rattle.gs_shell_desk.proofs.wire.Wire.lose.Goals as goal

pub returns : goal.returns
returns g c =
    at_one_of c.args.number c.in-Some.server c.args.handle c.in-Some-new.handle (λ handle s result after. DoesAtServer (servers.lose handle s) result s after) (way_of c.args.self.now)
    (nodes_of c.lose.new.self) c.lose.result c.in-Some.ensures.some c.in-Some-new.ensures.number (c.in-Some-new.ensures.some.0 refl) c.lose.ensures
