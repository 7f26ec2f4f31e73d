use Rattle.gs_laws_runs.proofs.lemmas.plain.Told.{put_were_told, settled_were_made, waiting_were_told}
use Rattle.gs_laws_runs.proofs.plain.copies_were_told_to_be_such.Goals as goal

pub returns-clause-settled : goal.returns-clause-settled
returns-clause-settled g c x = settled_were_made c.configurations_have_sizes.ensures c.a_message_edits_a_replica_by_what_it_says.ensures.edit x

pub returns-clause-waiting : goal.returns-clause-waiting
returns-clause-waiting g c x = waiting_were_told c.configurations_have_sizes.ensures c.a_message_edits_a_replica_by_what_it_says.ensures.edit x

pub returns-clause-put : goal.returns-clause-put
returns-clause-put g c x = put_were_told c.configurations_have_sizes.ensures c.a_message_edits_a_replica_by_what_it_says.ensures.edit x
