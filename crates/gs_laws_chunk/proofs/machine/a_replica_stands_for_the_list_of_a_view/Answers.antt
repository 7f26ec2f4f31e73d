use Rattle.gs_laws_chunk.proofs.lemmas.machine.Facts.{reached_world, each_stands, quiet_is_still}
use Rattle.gs_laws_chunk.proofs.lemmas.machine.Lasting.{quiet_stays}
use Rattle.gs_laws_chunk.proofs.machine.a_replica_stands_for_the_list_of_a_view.Goals as goal

pub returns-clause-stands : goal.returns-clause-stands
returns-clause-stands c = λ w r. each_stands w (reached_world w r)

pub returns-clause-quiet : goal.returns-clause-quiet
returns-clause-quiet c = λ w r. quiet_is_still w (reached_world w r)

pub returns-clause-stays : goal.returns-clause-stays
returns-clause-stays c = λ w last r leads. quiet_stays w (reached_world w r) last leads
