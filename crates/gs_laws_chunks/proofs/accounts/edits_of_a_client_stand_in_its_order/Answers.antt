use Rattle.gs_laws_chunks.proofs.lemmas.accounts.Overtaking.{edits_overtake, edits_stand_in_order, settled_overtake}
use Rattle.gs_laws_chunks.proofs.accounts.edits_of_a_client_stand_in_its_order.Goals as goal

pub returns-clause-order : goal.returns-clause-order
returns-clause-order g c x = edits_stand_in_order c.configurations_have_sizes.ensures c.a_message_edits_a_replica_by_what_it_says.ensures.edit x

pub returns-clause-overtakes : goal.returns-clause-overtakes
returns-clause-overtakes g c x = edits_overtake c.configurations_have_sizes.ensures c.a_message_edits_a_replica_by_what_it_says.ensures.edit x

pub returns-clause-settled : goal.returns-clause-settled
returns-clause-settled g c x = settled_overtake c.configurations_have_sizes.ensures c.a_message_edits_a_replica_by_what_it_says.ensures.edit x
