use Rattle.gs_laws_chunk.proofs.lemmas.machine.Facts.{reached_world}
use Rattle.gs_laws_chunk.proofs.lemmas.machine.Stays.{acknowledged_stays, settled_stays, known_inherits}
use Rattle.gs_laws_chunk.proofs.machine.settled_edits_stay.Goals as goal

pub returns-clause-acknowledged : goal.returns-clause-acknowledged
returns-clause-acknowledged c = λ w last r leads. acknowledged_stays w (reached_world w r) last leads

pub returns-clause-settled : goal.returns-clause-settled
returns-clause-settled c = λ w last r leads. settled_stays w (reached_world w r) last leads

pub returns-clause-inherits : goal.returns-clause-inherits
returns-clause-inherits c = λ b w leads. known_inherits b w leads
