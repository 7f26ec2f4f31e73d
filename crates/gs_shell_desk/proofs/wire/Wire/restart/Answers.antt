use Rattle.std.proofs.Common.{Ok, ◌≡◌, subst, sym}
use Rattle.gs_shell_desk.proofs.Doing.{at_one}
use Rattle.gs_server.specs.Servers as servers
use Rattle.gs_nodes.specs.Nodes.{nodes_of}
use Rattle.gs_shell_desk.specs.Ways.{way_of, with_nodes}
use Rattle.gs_shell_desk.specs.Lines.{Restarts}
use Rattle.gs_shell_desk.proofs.wire.Wire.restart.Goals as goal

pub returns-in-Some : goal.returns-in-Some
returns-in-Some g c =
    subst (λ node. Restarts g.D.Disk.seen g.D.Disk.failures node (way_of c.args.self.now) c.restart_server.result (with_nodes (nodes_of c.restart_server.new.self) (way_of c.args.self.now))) (sym c.in-Server.is)
    (at_one c.in-Server.number c.in-Some.server (λ s result after. (result ≡ Ok tt) × (after ≡ servers.restart s)) (way_of c.args.self.now) (nodes_of c.restart_server.new.self) c.restart_server.result
    c.in-Some.ensures.some c.restart_server.ensures)
