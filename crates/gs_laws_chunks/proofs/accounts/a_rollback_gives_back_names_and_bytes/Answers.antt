use Rattle.gs_laws_chunks.proofs.lemmas.accounts.Accounted.{gives_bytes_back}
use Rattle.gs_laws_chunks.proofs.lemmas.accounts.KeepingBack.{keeps_bytes}
use Rattle.gs_laws_chunks.proofs.lemmas.accounts.Leading.{gives_names_back}
use Rattle.gs_laws_chunks.proofs.lemmas.accounts.ToldBack.{told_bytes_back, told_keeps_bytes, told_names_back}
use Rattle.gs_laws_chunks.proofs.accounts.a_rollback_gives_back_names_and_bytes.Goals as goal

pub returns-clause-names : goal.returns-clause-names
returns-clause-names g c x = gives_names_back x

pub returns-clause-bytes : goal.returns-clause-bytes
returns-clause-bytes g c x = gives_bytes_back c.configurations_have_sizes.ensures c.a_message_edits_a_replica_by_what_it_says.ensures.edit x

pub returns-clause-kept : goal.returns-clause-kept
returns-clause-kept g c x = keeps_bytes c.configurations_have_sizes.ensures c.a_message_edits_a_replica_by_what_it_says.ensures.edit x

pub returns-clause-told_names : goal.returns-clause-told_names
returns-clause-told_names g c x = told_names_back x

pub returns-clause-told_bytes : goal.returns-clause-told_bytes
returns-clause-told_bytes g c x = told_bytes_back c.configurations_have_sizes.ensures c.a_message_edits_a_replica_by_what_it_says.ensures.edit x

pub returns-clause-told_kept : goal.returns-clause-told_kept
returns-clause-told_kept g c x = told_keeps_bytes c.configurations_have_sizes.ensures c.a_message_edits_a_replica_by_what_it_says.ensures.edit x
