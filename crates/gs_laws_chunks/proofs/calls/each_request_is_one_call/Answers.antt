use Rattle.gs_laws_chunks.proofs.lemmas.calls.One.{requests_are_one}
use Rattle.gs_laws_chunks.proofs.calls.each_request_is_one_call.Goals as goal

pub returns : goal.returns
returns g c seen failures armed = requests_are_one seen failures armed c.configurations_have_sizes.ensures
