use Rattle.gs_laws_chunks.proofs.lemmas.accounts.SeeingThrough.{each_is_seen_through, each_sees_on_through, reached_through}
use Rattle.gs_laws_chunks.proofs.accounts.all_chunks_are_seen_whatever_disks_fail.Goals as goal

pub returns-clause-stays : goal.returns-clause-stays
returns-clause-stays g c x = reached_through x

pub returns-clause-reached : goal.returns-clause-reached
returns-clause-reached g c x = each_is_seen_through c.configurations_have_sizes.ensures c.a_message_edits_a_replica_by_what_it_says.ensures.edit x

pub returns-clause-onward : goal.returns-clause-onward
returns-clause-onward g c x = each_sees_on_through c.configurations_have_sizes.ensures c.a_message_edits_a_replica_by_what_it_says.ensures.edit x
