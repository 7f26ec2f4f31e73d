use Rattle.gs_laws_chunks.proofs.lemmas.accounts.Holding.{replicas_stand}
use Rattle.gs_laws_chunks.proofs.accounts.replicas_stand_for_beginnings_of_lists.Goals as goal

pub returns : goal.returns
returns g c x = replicas_stand c.configurations_have_sizes.ensures c.a_message_edits_a_replica_by_what_it_says.ensures.edit x
