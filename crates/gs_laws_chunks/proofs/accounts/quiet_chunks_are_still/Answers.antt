use Rattle.gs_laws_chunks.proofs.lemmas.accounts.Holding.{quiet_stays_still}
use Rattle.gs_laws_chunks.proofs.accounts.quiet_chunks_are_still.Goals as goal

pub returns : goal.returns
returns g c x = quiet_stays_still c.configurations_have_sizes.ensures c.a_message_edits_a_replica_by_what_it_says.ensures.edit x c.an_event_calls_what_it_says.ensures
