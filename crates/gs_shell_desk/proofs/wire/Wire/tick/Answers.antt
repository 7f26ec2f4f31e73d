use Rattle.gs_shell_desk.specs.Ways.{way_of}
use Rattle.gs_shell_desk.proofs.wire.Wire.tick.Goals as goal

pub returns : goal.returns
returns g c = (way_of c.tick_all.new.self, c.tick_all.ensures, c.deliver_all.ensures)
