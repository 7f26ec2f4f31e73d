use Rattle.gs_shell_desk.specs.Ways.{ServersTick, way_of}
use Rattle.gs_shell_desk.proofs.wire.Wire.tick_servers.Given as goal

abbrev pub invariant-loop-number : goal.invariant-loop-number
invariant-loop-number g l = ServersTick l.number (way_of l.initial.self) (way_of l.self)
