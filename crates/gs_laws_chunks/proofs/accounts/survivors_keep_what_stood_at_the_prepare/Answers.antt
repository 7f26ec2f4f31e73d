use Rattle.gs_laws_chunks.proofs.lemmas.accounts.Holding.{survivors_keep_text, survivors_name}
use Rattle.gs_laws_chunks.proofs.lemmas.accounts.Returning.{rolled_back_stay}
use Rattle.gs_laws_chunks.proofs.accounts.survivors_keep_what_stood_at_the_prepare.Goals as goal

pub returns-clause-keep : goal.returns-clause-keep
returns-clause-keep g c x = survivors_keep_text c.configurations_have_sizes.ensures c.a_message_edits_a_replica_by_what_it_says.ensures.edit x

pub returns-clause-name : goal.returns-clause-name
returns-clause-name g c x = survivors_name c.configurations_have_sizes.ensures c.a_message_edits_a_replica_by_what_it_says.ensures.edit x

pub returns-clause-stay : goal.returns-clause-stay
returns-clause-stay g c x = rolled_back_stay c.configurations_have_sizes.ensures c.a_message_edits_a_replica_by_what_it_says.ensures.edit x
