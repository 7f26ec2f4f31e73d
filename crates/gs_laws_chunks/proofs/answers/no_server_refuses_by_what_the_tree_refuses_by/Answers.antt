use Rattle.gs_laws_chunks.proofs.lemmas.answers.OfTree.{begins_sparing, scripts_sparing, stays_sparing}
use Rattle.gs_laws_chunks.proofs.answers.no_server_refuses_by_what_the_tree_refuses_by.Goals as goal

pub returns-clause-begun : goal.returns-clause-begun
returns-clause-begun g c seen failures armed = begins_sparing c.configurations_have_sizes.ensures seen failures armed

pub returns-clause-kept : goal.returns-clause-kept
returns-clause-kept g c seen failures armed = stays_sparing seen failures armed

pub returns-clause-scripts : goal.returns-clause-scripts
returns-clause-scripts g c = scripts_sparing c.configurations_have_sizes.ensures
