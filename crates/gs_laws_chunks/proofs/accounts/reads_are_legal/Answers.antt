use Rattle.gs_laws_chunks.proofs.lemmas.accounts.Fetched.{bytes_are_fetched}
use Rattle.gs_laws_chunks.proofs.lemmas.accounts.Holding.{reads_legal}
use Rattle.gs_laws_chunks.proofs.accounts.reads_are_legal.Goals as goal

pub returns-clause-legal : goal.returns-clause-legal
returns-clause-legal g c x = reads_legal c.configurations_have_sizes.ensures c.a_message_edits_a_replica_by_what_it_says.ensures.edit x

pub returns-clause-fetched : goal.returns-clause-fetched
returns-clause-fetched g c x = bytes_are_fetched c.configurations_have_sizes.ensures c.a_message_edits_a_replica_by_what_it_says.ensures.edit x
