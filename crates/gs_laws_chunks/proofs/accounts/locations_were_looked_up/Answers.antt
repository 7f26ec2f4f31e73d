use Rattle.gs_laws_chunks.proofs.lemmas.accounts.Locating.{locations_were_looked_up}
use Rattle.gs_laws_chunks.proofs.accounts.locations_were_looked_up.Goals as goal

pub returns : goal.returns
returns g c x = locations_were_looked_up c.configurations_have_sizes.ensures c.a_message_edits_a_replica_by_what_it_says.ensures.edit x
