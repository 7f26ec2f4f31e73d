use Rattle.gs_laws_chunks.proofs.lemmas.accounts.Deciding.{decided, does_one_thing}
use Rattle.gs_laws_chunks.proofs.accounts.a_commit_is_decided_by_what_was_named.Goals as goal

pub returns-clause-decided : goal.returns-clause-decided
returns-clause-decided g c x = decided c.configurations_have_sizes.ensures c.a_message_edits_a_replica_by_what_it_says.ensures.edit x

pub returns-clause-whatever_fails : goal.returns-clause-whatever_fails
returns-clause-whatever_fails g c x = does_one_thing c.configurations_have_sizes.ensures c.a_message_edits_a_replica_by_what_it_says.ensures.edit x
