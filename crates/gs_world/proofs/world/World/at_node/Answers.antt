use Rattle.std.proofs.Common.{◌∙◌, sym}
use Rattle.gs_world.proofs.world.World.at_node.Goals as goal

pub returns-in-Ask-clause-survives : goal.returns-in-Ask-clause-survives
returns-in-Ask-clause-survives g c = λ is. absurd (cc (sym c.in-Ask.is ∙ is))
