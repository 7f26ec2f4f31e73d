use Rattle.gs_laws_chunks.proofs.lemmas.accounts.Accepted.{survivors_are_accepted}
use Rattle.gs_laws_chunks.proofs.lemmas.accounts.Answering.{one_survivor_is_enough}
use Rattle.gs_laws_chunks.proofs.accounts.one_survivor_is_enough.Goals as goal

pub returns-clause-named : goal.returns-clause-named
returns-clause-named g c x = one_survivor_is_enough c.configurations_have_sizes.ensures c.a_message_edits_a_replica_by_what_it_says.ensures.edit x

pub returns-clause-accepted : goal.returns-clause-accepted
returns-clause-accepted g c x = survivors_are_accepted c.configurations_have_sizes.ensures c.a_message_edits_a_replica_by_what_it_says.ensures.edit x
