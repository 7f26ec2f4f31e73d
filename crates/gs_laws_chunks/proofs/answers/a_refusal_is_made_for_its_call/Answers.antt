use Rattle.gs_laws_chunks.proofs.lemmas.answers.Served.{refusals_are_made}
use Rattle.gs_laws_chunks.proofs.answers.a_refusal_is_made_for_its_call.Goals as goal

pub returns : goal.returns
returns g c seen failures armed = refusals_are_made seen failures armed
