use Rattle.gs_laws_chunks.proofs.lemmas.accounts.Asked.{edits_were_asked}
use Rattle.gs_laws_chunks.proofs.accounts.each_edit_was_asked_for.Goals as goal

pub returns : goal.returns
returns g c x = edits_were_asked c.configurations_have_sizes.ensures c.a_message_edits_a_replica_by_what_it_says.ensures.edit x
