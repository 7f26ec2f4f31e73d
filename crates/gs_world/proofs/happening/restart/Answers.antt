use Rattle.std.proofs.Common.{◌∙◌, sym}
use Rattle.gs_world.proofs.happening.restart.Goals as goal

pub returns-in-Master-clause-survives : goal.returns-in-Master-clause-survives
returns-in-Master-clause-survives g c = λ is. c.restart_master.ensures.survives

pub returns-in-Server-clause-survives : goal.returns-in-Server-clause-survives
returns-in-Server-clause-survives g c = λ is. absurd (cc (sym c.in-Server.is ∙ is))
