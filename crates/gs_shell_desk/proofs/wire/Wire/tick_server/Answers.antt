use Rattle.std.proofs.Common.{subst}
use Rattle.gs_server.specs.Servers as servers
use Rattle.gs_nodes.specs.Happenings.{AtServer, ServerDoes}
use Rattle.gs_nodes.specs.Nodes.{nodes_of}
use Rattle.gs_shell_desk.proofs.wire.Wire.tick_server.Goals as goal

pub returns : goal.returns
returns g c = record {
  nodes = nodes_of c.tick_server-done.new.self;
  turn = c.tick_server-done.result;
  said = c.end-said.result;
  ticks = subst (λ number. AtServer number (λ s. ServerDoes (servers.tick s c.args.self.now.moment) s) (nodes_of c.args.self.now.nodes) c.tick_server-done.result (nodes_of c.tick_server-done.new.self)) c.in-Some.ensures.number c.tick_server-done.ensures;
  ends = c.end-said.ensures;
}
