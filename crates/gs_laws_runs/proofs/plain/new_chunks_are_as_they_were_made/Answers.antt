use Rattle.gs_laws_runs.proofs.lemmas.plain.Fresh.{added_as_made, new_as_made}
use Rattle.gs_laws_runs.proofs.plain.new_chunks_are_as_they_were_made.Goals as goal

pub returns-clause-new : goal.returns-clause-new
returns-clause-new g c x = new_as_made c.configurations_have_sizes.ensures c.a_message_edits_a_replica_by_what_it_says.ensures.edit x

pub returns-clause-added : goal.returns-clause-added
returns-clause-added g c x = added_as_made c.configurations_have_sizes.ensures c.a_message_edits_a_replica_by_what_it_says.ensures.edit x
