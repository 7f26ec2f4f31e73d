use Rattle.gs_laws_chunks.proofs.lemmas.answers.Answered.{answers_are_made}
use Rattle.gs_laws_chunks.proofs.answers.an_answer_is_made_for_its_call.Goals as goal

pub returns : goal.returns
returns g c = answers_are_made
