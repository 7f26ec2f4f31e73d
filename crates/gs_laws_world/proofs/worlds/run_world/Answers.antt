use Rattle.std.proofs.Common.{List, subst}
use Rattle.std.specs.List.{AllByRecursion}
use Rattle.gs_msg.specs.declared.event.Event.{Event}
use Rattle.gs_laws_world.specs.worlds.Worlds.{HasNumbers}
use Rattle.gs_laws_world.proofs.lemmas.worlds.Worlds.{runs_so}
use Rattle.gs_laws_world.proofs.worlds.run_world.Goals as goal

pub returns-clause-reached : goal.returns-clause-reached
returns-clause-reached g c =
    let numbers = subst (λ (events : List Event). AllByRecursion HasNumbers events) c.deref.ensures.value c.have_numbers.ensures in
    λ config clients disks reached rules. runs_so g.D.Disk.seen g.D.Disk.failures config clients disks c.run.result c.args.events.items c.args.world.now c.run.new.self c.run.ensures.ok c.run.ensures.err numbers reached rules
