use Rattle.gs_shell_desk.proofs.Delivering.{one_more_ticks}
use Rattle.gs_shell_desk.specs.Ways.{way_of}
use Rattle.gs_shell_desk.proofs.wire.Wire.tick_servers.Goals as goal

pub loop-number-preserved : goal.loop-number-preserved
loop-number-preserved g c =
    one_more_ticks c.loop-number.number (way_of c.args.self.now) (way_of c.loop-number.self) (way_of c.tick_server.new.self) c.loop-number.invariant c.tick_server.ensures
