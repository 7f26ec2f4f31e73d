use Rattle.gs_laws_chunks.proofs.lemmas.accounts.KeepingReplicas.{gives_replicas_back}
use Rattle.gs_laws_chunks.proofs.lemmas.accounts.KeepingTexts.{no_other_text}
use Rattle.gs_laws_chunks.proofs.lemmas.accounts.Settled.{gives_no_other_back, gives_settled_back}
use Rattle.gs_laws_chunks.proofs.accounts.a_rollback_gives_back_what_was_settled.Goals as goal

pub returns-clause-settled : goal.returns-clause-settled
returns-clause-settled g c x = gives_settled_back c.configurations_have_sizes.ensures c.a_message_edits_a_replica_by_what_it_says.ensures.edit x

pub returns-clause-others : goal.returns-clause-others
returns-clause-others g c x = gives_no_other_back c.configurations_have_sizes.ensures c.a_message_edits_a_replica_by_what_it_says.ensures.edit x

pub returns-clause-text : goal.returns-clause-text
returns-clause-text g c x = no_other_text c.configurations_have_sizes.ensures c.a_message_edits_a_replica_by_what_it_says.ensures.edit x

pub returns-clause-replicas : goal.returns-clause-replicas
returns-clause-replicas g c x = gives_replicas_back c.configurations_have_sizes.ensures c.a_message_edits_a_replica_by_what_it_says.ensures.edit x
