use Rattle.gs_laws_chunks.proofs.lemmas.members.Bytes.{rollback_leaves_bytes, rollback_leaves_told}
use Rattle.gs_laws_chunks.proofs.members.a_rollback_leaves_members_with_the_bytes_of_then.Goals as goal

pub returns-clause-kept : goal.returns-clause-kept
returns-clause-kept g c x = rollback_leaves_bytes c.configurations_have_sizes.ensures c.a_message_edits_a_replica_by_what_it_says.ensures.edit x (c.no_rollback_is_done_unnamed.ensures.members x)

pub returns-clause-told : goal.returns-clause-told
returns-clause-told g c x = rollback_leaves_told c.configurations_have_sizes.ensures c.a_message_edits_a_replica_by_what_it_says.ensures.edit x (c.no_rollback_is_done_unnamed.ensures.members x)
