use Rattle.std.proofs.Common.{take}
use Rattle.std.specs.List.{AllByRecursion}
use Rattle.gs_laws_image.specs.Slots.{IsServerHeld}
use Rattle.gs_laws_image.proofs.held.are_servers_held.Given as goal

abbrev pub invariant-loop-server : goal.invariant-loop-server
invariant-loop-server l = AllByRecursion IsServerHeld (take l.server-index l.fn.servers)
