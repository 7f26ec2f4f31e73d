use Rattle.std.proofs.Common.{refl, subst, sym}
use Rattle.gs_nodes.specs.Happenings.{MasterTicks}
use Rattle.gs_nodes.specs.declared.place.MasterPlace.TheVariants.{Standing}
use Rattle.gs_nodes.proofs.place.MasterPlace.tick.Goals as goal

pub returns-in-Standing : goal.returns-in-Standing
returns-in-Standing g c =
    subst (λ place. MasterTicks g.D.Disk.seen g.D.Disk.failures c.args.moment place c.tick.result (Standing c.tick.new.self)) (sym c.in-Standing.is) (c.tick.new.self, refl, c.tick.ensures)
