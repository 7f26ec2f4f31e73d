use Rattle.gs_laws_parts.proofs.lemmas.server.Learning.{learns, named}
use Rattle.gs_laws_parts.proofs.server.the_end_of_an_epoch_is_a_step_of_each_chunk.Goals as goal

pub returns-clause-learned : goal.returns-clause-learned
returns-clause-learned c = λ setting chunk w me p epoch end next told. learns setting chunk w me p epoch end next told

pub returns-clause-named : goal.returns-clause-named
returns-clause-named c = λ setting chunk w me epoch p handles follows all. named setting chunk w me p epoch p handles follows all
