use Rattle.std.proofs.Common.{take}
use Rattle.std.specs.List.{AllByRecursion}
use Rattle.gs_laws_world.specs.worlds.Worlds.{HasNumbers}
use Rattle.gs_laws_world.proofs.worlds.have_numbers.Given as goal

abbrev pub invariant-loop-event : goal.invariant-loop-event
invariant-loop-event l = AllByRecursion HasNumbers (take l.event-index l.fn.events)
