use Rattle.gs_laws_chunks.proofs.lemmas.answers.Served.{begins_served, scripts_served, stays_served}
use Rattle.gs_laws_chunks.proofs.answers.of_each_request_to_a_server_its_client_has_asked.Goals as goal

pub returns-clause-begun : goal.returns-clause-begun
returns-clause-begun g c seen failures armed = begins_served c.configurations_have_sizes.ensures seen failures armed

pub returns-clause-kept : goal.returns-clause-kept
returns-clause-kept g c seen failures armed = stays_served seen failures armed

pub returns-clause-scripts : goal.returns-clause-scripts
returns-clause-scripts g c = scripts_served c.configurations_have_sizes.ensures
