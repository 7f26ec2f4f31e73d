use Rattle.std.proofs.Common.{Err, Ok, inr, refl, subst, ◌≡◌}
use Rattle.gs_shell_desk.proofs.Doing.{for_one, told_at}
use Rattle.gs_base.specs.declared.refusal.Refusal.TheVariants as refusals
use Rattle.gs_server.specs.Servers as servers
use Rattle.gs_shell_desk.specs.Lines.{Beats, BeatsOf}
use Rattle.gs_shell_desk.specs.Ways.{way_of}
use Rattle.gs_shell_desk.proofs.wire.Wire.beat.Goals as goal

pub returns : goal.returns
returns g c =
    for_one c.args.number (BeatsOf g.D.Disk.seen g.D.Disk.failures c.args.number (way_of c.args.self.now)) (way_of c.args.self.now) (Ok c.deliver_all.new.self.drops) (way_of c.deliver_all.new.self)
    c.in-Some.ensures.some.1
    (told_at c.args.self.now.nodes.servers.items c.in-Some.server c.args.number servers.beat c.in-Ok.report
    ((Ok c.deliver_all.new.self.drops ≡ Err refusals.Range) × (way_of c.deliver_all.new.self ≡ way_of c.args.self.now))
    (λ s. Beats g.D.Disk.seen g.D.Disk.failures (servers.beat s) (way_of c.args.self.now) (Ok c.deliver_all.new.self.drops) (way_of c.deliver_all.new.self)) c.in-Some.ensures.some.0 c.in-Ok.ensures
    (λ s same. subst (λ report. Beats g.D.Disk.seen g.D.Disk.failures report (way_of c.args.self.now) (Ok c.deliver_all.new.self.drops) (way_of c.deliver_all.new.self)) same
    (inr (way_of c.send.new.self, c.send.ensures, c.deliver_all.ensures, refl))))
