use Rattle.gs_laws_chunk.proofs.lemmas.machine.Facts.{reached_world}
use Rattle.gs_laws_chunk.proofs.lemmas.machine.Exact.{quiet_is_settled}
use Rattle.gs_laws_chunk.proofs.lemmas.machine.Settled.{settles_on}
use Rattle.gs_laws_chunk.proofs.machine.settled_edits_go_on.Goals as goal

pub returns-clause-settles : goal.returns-clause-settles
returns-clause-settles c = λ w e r can. settles_on w (reached_world w r) e can

pub returns-clause-quiet : goal.returns-clause-quiet
returns-clause-quiet c = λ w r. quiet_is_settled w (reached_world w r)
