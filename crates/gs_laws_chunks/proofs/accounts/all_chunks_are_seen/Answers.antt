use Rattle.gs_laws_chunks.proofs.lemmas.accounts.Seeing.{each_is_seen, each_sees_on}
use Rattle.gs_laws_chunks.proofs.accounts.all_chunks_are_seen.Goals as goal

pub returns-clause-reached : goal.returns-clause-reached
returns-clause-reached g c x = each_is_seen c.configurations_have_sizes.ensures c.a_message_edits_a_replica_by_what_it_says.ensures.edit x

pub returns-clause-onward : goal.returns-clause-onward
returns-clause-onward g c x = each_sees_on c.configurations_have_sizes.ensures c.a_message_edits_a_replica_by_what_it_says.ensures.edit x
