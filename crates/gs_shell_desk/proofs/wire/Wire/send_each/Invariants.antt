use Rattle.gs_shell_desk.specs.Ways.{SendsAll, Way, way_of}
use Rattle.gs_shell_desk.proofs.wire.Wire.send_each.Given as goal

abbrev pub invariant-loop-message : goal.invariant-loop-message
invariant-loop-message g l =
    (new : Way g.row.D.Denot) → SendsAll l.message-iterator.rest.items (way_of l.self) new → SendsAll l.fn.sent.items (way_of l.initial.self) new
