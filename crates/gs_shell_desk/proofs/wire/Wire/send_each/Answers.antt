use Rattle.std.proofs.Common.{subst, sym}
use Rattle.gs_shell_desk.specs.Ways.{SendsAll, way_of}
use Rattle.gs_shell_desk.proofs.wire.Wire.send_each.Goals as goal

pub loop-message-preserved : goal.loop-message-preserved
loop-message-preserved g c new others =
    c.loop-message.invariant new
    (subst (λ messages. SendsAll messages (way_of c.loop-message.self) new) (sym c.in-Some.ensures.steps.0) (way_of c.send.new.self, c.send.ensures, others))
