use Rattle.gs_laws_chunk.proofs.lemmas.machine.Origins.{masters_lists_old, lists_same, lists_then}
use Rattle.gs_laws_chunk.proofs.machine.the_master_makes_lists_of_old_ones.Goals as goal

pub returns-clause-event : goal.returns-clause-event
returns-clause-event c = λ w e. masters_lists_old w e

pub returns-clause-same : goal.returns-clause-same
returns-clause-same c = λ w. lists_same w

pub returns-clause-then : goal.returns-clause-then
returns-clause-then c = λ w mid last first then. lists_then w mid last first then
