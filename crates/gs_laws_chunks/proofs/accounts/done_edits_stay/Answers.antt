use Rattle.gs_laws_chunks.proofs.lemmas.accounts.Holding.{done_stays, repeats_alike}
use Rattle.gs_laws_chunks.proofs.accounts.done_edits_stay.Goals as goal

pub returns-clause-stays : goal.returns-clause-stays
returns-clause-stays g c x = done_stays c.configurations_have_sizes.ensures c.a_message_edits_a_replica_by_what_it_says.ensures.edit x

pub returns-clause-repeats : goal.returns-clause-repeats
returns-clause-repeats g c x = repeats_alike c.configurations_have_sizes.ensures c.a_message_edits_a_replica_by_what_it_says.ensures.edit x
