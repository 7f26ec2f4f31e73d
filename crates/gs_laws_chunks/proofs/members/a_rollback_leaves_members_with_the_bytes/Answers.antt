use Rattle.gs_laws_chunks.proofs.lemmas.members.Left.{namers_have_the_text, rollback_leaves_members}
use Rattle.gs_laws_chunks.proofs.members.a_rollback_leaves_members_with_the_bytes.Goals as goal

pub returns-clause-members : goal.returns-clause-members
returns-clause-members g c x = rollback_leaves_members c.configurations_have_sizes.ensures c.a_message_edits_a_replica_by_what_it_says.ensures.edit x (c.no_rollback_is_done_unnamed.ensures.members x)

pub returns-clause-namers : goal.returns-clause-namers
returns-clause-namers g c x = namers_have_the_text c.configurations_have_sizes.ensures c.a_message_edits_a_replica_by_what_it_says.ensures.edit x
