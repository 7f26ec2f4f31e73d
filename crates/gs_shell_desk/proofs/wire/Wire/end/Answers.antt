use Rattle.std.proofs.Common.{rules}
use Rattle.gs_shell_desk.specs.Ways.{way_of}
use Rattle.gs_shell_desk.proofs.Ended.{ends_done}
use Rattle.gs_shell_desk.proofs.wire.Wire.end.Goals as goal

pub returns-in-Some : goal.returns-in-Some
returns-in-Some g c =
    ends_done c.args.done c.in-Ok.turn (way_of c.args.self.now) (way_of c.send_all.new.self) (way_of c.note_said.new.self) _ c.in-Ok.is c.send_all.ensures c.note_said.ensures (search rules)

pub returns-in-None : goal.returns-in-None
returns-in-None g c =
    ends_done c.args.done c.in-Ok.turn (way_of c.args.self.now) (way_of c.send_all.new.self) (way_of c.note_said.new.self) _ c.in-Ok.is c.send_all.ensures c.note_said.ensures (search rules)
