use Rattle.gs_shell_desk.specs.Ways.{way_of}
use Rattle.gs_shell_desk.proofs.wire.Wire.answer.Goals as goal

pub returns : goal.returns
returns g c = record { first = way_of c.send_all.new.self; second = way_of c.deliver_all.new.self; third = way_of c.tick_unless_answered.new.self; sends = c.send_all.ensures; delivers = c.deliver_all.ensures; waited = c.tick_unless_answered.ensures; heard = c.heard.ensures }
