use Rattle.gs_laws_chunks.proofs.lemmas.accounts.Seeing.{each_is_a_run, each_leads_on}
use Rattle.gs_laws_chunks.proofs.lemmas.accounts.SeeingThrough.{each_is_a_run_through, each_leads_on_through}
use Rattle.gs_laws_chunks.proofs.accounts.each_chunk_of_a_store_is_a_run_of_its_machine.Goals as goal

pub returns-clause-reached : goal.returns-clause-reached
returns-clause-reached g c x = each_is_a_run c.configurations_have_sizes.ensures c.a_message_edits_a_replica_by_what_it_says.ensures.edit x

pub returns-clause-onward : goal.returns-clause-onward
returns-clause-onward g c x = each_leads_on c.configurations_have_sizes.ensures c.a_message_edits_a_replica_by_what_it_says.ensures.edit x

pub returns-clause-left : goal.returns-clause-left
returns-clause-left g c x = each_is_a_run_through c.configurations_have_sizes.ensures c.a_message_edits_a_replica_by_what_it_says.ensures.edit x

pub returns-clause-left_onward : goal.returns-clause-left_onward
returns-clause-left_onward g c x = each_leads_on_through c.configurations_have_sizes.ensures c.a_message_edits_a_replica_by_what_it_says.ensures.edit x
