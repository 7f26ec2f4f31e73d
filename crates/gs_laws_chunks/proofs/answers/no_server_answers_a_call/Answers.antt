use Rattle.gs_laws_chunks.proofs.lemmas.answers.Served.{calls_are_for_the_master}
use Rattle.gs_laws_chunks.proofs.answers.no_server_answers_a_call.Goals as goal

pub returns : goal.returns
returns g c seen failures armed = calls_are_for_the_master seen failures armed
