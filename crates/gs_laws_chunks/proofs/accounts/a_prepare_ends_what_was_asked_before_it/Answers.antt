use Rattle.gs_laws_chunks.proofs.lemmas.accounts.Ending.{prepares_end_edits}
use Rattle.gs_laws_chunks.proofs.accounts.a_prepare_ends_what_was_asked_before_it.Goals as goal

pub returns : goal.returns
returns g c x = prepares_end_edits c.configurations_have_sizes.ensures c.a_message_edits_a_replica_by_what_it_says.ensures.edit x
