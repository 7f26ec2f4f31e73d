use Rattle.gs_laws_chunk.proofs.lemmas.machine.Facts.{reached_world}
use Rattle.gs_laws_chunk.proofs.lemmas.machine.Lasting.{agrees, stays_known}
use Rattle.gs_laws_chunk.proofs.lemmas.machine.Reached.{reached_within}
use Rattle.gs_laws_chunk.proofs.machine.what_is_known_stays.Goals as goal

pub returns-clause-agrees : goal.returns-clause-agrees
returns-clause-agrees c = λ w r. agrees w (reached_world w r)

pub returns-clause-stays : goal.returns-clause-stays
returns-clause-stays c = λ w last r leads. stays_known w (reached_world w r) last leads

pub returns-clause-within : goal.returns-clause-within
returns-clause-within c = reached_within
