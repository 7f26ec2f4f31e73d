use Rattle.std.proofs.Common.{inr, subst}
use Rattle.gs_shell_desk.proofs.Doing.{told}
use Rattle.gs_shell_desk.specs.Lines.{HandsOver, held_at}
use Rattle.gs_shell_desk.specs.Ways.{way_of}
use Rattle.gs_shell_desk.proofs.wire.Wire.hand_over.Goals as goal

pub returns : goal.returns
returns g c =
    told (held_at c.args.number c.args.self.now.held.items) (λ message. message) c.in-Ok.message _
    (λ message. HandsOver g.D.Disk.seen g.D.Disk.failures message (way_of c.args.self.now) c.deliver-said.result (way_of c.deliver_all.new.self)) c.in-Ok.ensures
    (λ message same. subst (λ m. HandsOver g.D.Disk.seen g.D.Disk.failures m (way_of c.args.self.now) c.deliver-said.result (way_of c.deliver_all.new.self)) same
    (inr (way_of c.deliver-said.new.self, c.deliver-said.ensures, c.deliver_all.ensures)))
