use Rattle.gs_laws_parts.proofs.lemmas.server.Quiet.{spends, ticks, loses, damages, reported}
use Rattle.gs_laws_parts.proofs.server.what_happens_without_a_message_is_a_step_of_the_chunk.Goals as goal

pub returns-clause-restart : goal.returns-clause-restart
returns-clause-restart c = λ setting chunk w me epoch p shows. spends setting chunk w me epoch p shows

pub returns-clause-over : goal.returns-clause-over
returns-clause-over c = λ setting chunk w me epoch p moment shows over. ticks setting chunk w me epoch p shows moment over

pub returns-clause-lost : goal.returns-clause-lost
returns-clause-lost c = λ setting chunk w me epoch p s shows is. loses setting chunk w me epoch p shows s is

pub returns-clause-damaged : goal.returns-clause-damaged
returns-clause-damaged c = λ setting chunk w me epoch p block s shows is. damages setting chunk w me epoch p shows block s is

pub returns-clause-reported : goal.returns-clause-reported
returns-clause-reported c = λ setting chunk w me epoch p replicas shows all. reported setting chunk w me epoch p shows replicas all
