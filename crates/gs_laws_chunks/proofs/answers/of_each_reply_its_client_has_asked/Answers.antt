use Rattle.gs_laws_chunks.proofs.lemmas.answers.Asked.{begins_asked, scripts_asked, stays_asked, stays_unarmed}
use Rattle.gs_laws_chunks.proofs.answers.of_each_reply_its_client_has_asked.Goals as goal

pub returns-clause-begun : goal.returns-clause-begun
returns-clause-begun g c seen = begins_asked c.configurations_have_sizes.ensures seen

pub returns-clause-kept : goal.returns-clause-kept
returns-clause-kept g c = stays_asked

pub returns-clause-unarmed : goal.returns-clause-unarmed
returns-clause-unarmed g c = stays_unarmed

pub returns-clause-scripts : goal.returns-clause-scripts
returns-clause-scripts g c = scripts_asked c.configurations_have_sizes.ensures
