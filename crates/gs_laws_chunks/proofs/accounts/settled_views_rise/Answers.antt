use Rattle.gs_laws_chunks.proofs.lemmas.accounts.ViewsRise.{locations_not_above, views_rise}
use Rattle.gs_laws_chunks.proofs.accounts.settled_views_rise.Goals as goal

pub returns-clause-rise : goal.returns-clause-rise
returns-clause-rise g c x = views_rise c.configurations_have_sizes.ensures c.a_message_edits_a_replica_by_what_it_says.ensures.edit x

pub returns-clause-told : goal.returns-clause-told
returns-clause-told g c x = locations_not_above c.configurations_have_sizes.ensures c.a_message_edits_a_replica_by_what_it_says.ensures.edit x
