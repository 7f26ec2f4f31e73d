use Rattle.gs_laws_chunk.proofs.lemmas.machine.Acting.{others_stay}
use Rattle.gs_laws_chunk.proofs.machine.an_event_leaves_the_others.Goals as goal

pub returns : goal.returns
returns c = λ w e. others_stay w e
