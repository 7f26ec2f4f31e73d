use Rattle.std.proofs.Common.{subst, true}
use Rattle.gs_shell_desk.specs.Ways.{Waits, way_of}
use Rattle.gs_shell_desk.proofs.wire.Wire.tick_unless_answered.Goals as goal

pub returns-then-is_waiting : goal.returns-then-is_waiting
returns-then-is_waiting g c =
    (true, subst (λ waits. Waits c.args.client (way_of c.args.self.now) waits) c.if-is_waiting.true c.is_waiting.ensures, (way_of c.tick_all.new.self, c.tick_all.ensures, c.deliver_all.ensures))
