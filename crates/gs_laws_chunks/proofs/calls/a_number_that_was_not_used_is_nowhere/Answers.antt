use Rattle.gs_laws_chunks.proofs.lemmas.calls.Fresh.{calls_are_used, edits_are_used, told_to_client}
use Rattle.gs_laws_chunks.proofs.calls.a_number_that_was_not_used_is_nowhere.Goals as goal

pub returns-clause-edits : goal.returns-clause-edits
returns-clause-edits g c x = edits_are_used c.configurations_have_sizes.ensures c.a_message_edits_a_replica_by_what_it_says.ensures.edit x

pub returns-clause-calls : goal.returns-clause-calls
returns-clause-calls g c seen failures armed = calls_are_used c.configurations_have_sizes.ensures seen failures armed

pub returns-clause-locations : goal.returns-clause-locations
returns-clause-locations g c seen failures armed = told_to_client c.configurations_have_sizes.ensures seen failures armed
