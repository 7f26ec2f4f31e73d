use Rattle.gs_laws_chunks.proofs.lemmas.accounts.Others.{others_were_copied}
use Rattle.gs_laws_chunks.proofs.accounts.edits_of_other_chunks_were_copied.Goals as goal

pub returns : goal.returns
returns g c x = others_were_copied c.configurations_have_sizes.ensures c.a_message_edits_a_replica_by_what_it_says.ensures.edit x
