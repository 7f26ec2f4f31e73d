use Rattle.gs_laws_chunks.proofs.lemmas.answers.Resting.{stays_still}
use Rattle.gs_laws_chunks.proofs.answers.names_stand_while_a_client_looks.Goals as goal

pub returns : goal.returns
returns g c = stays_still
