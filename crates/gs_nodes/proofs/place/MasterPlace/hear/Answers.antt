use Rattle.std.proofs.Common.{refl, subst, sym}
use Rattle.gs_nodes.proofs.Closing.{hears_closed}
use Rattle.gs_nodes.specs.Happenings.{MasterHears}
use Rattle.gs_nodes.specs.declared.place.MasterPlace.TheVariants.{Standing}
use Rattle.gs_nodes.proofs.place.MasterPlace.hear.Goals as goal

pub returns-in-Standing : goal.returns-in-Standing
returns-in-Standing g c =
    subst (λ place. MasterHears g.D.Disk.seen g.D.Disk.failures c.args.message c.args.moment place c.handle.result (Standing c.handle.new.self)) (sym c.in-Standing.is)
    (c.handle.new.self, refl, c.handle.ensures)

pub returns-in_ok-sent-in_default : goal.returns-in_ok-sent-in_default
returns-in_ok-sent-in_default g c = hears_closed g.D.Disk.seen g.D.Disk.failures c.args.message c.args.moment c.args.self.now _ c.in_default.not-Standing c.in_ok-sent-in_default.ensures refl
