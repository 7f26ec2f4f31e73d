use Rattle.gs_laws_chunks.proofs.lemmas.accounts.Copied.{copies_are_of_views}
use Rattle.gs_laws_chunks.proofs.lemmas.accounts.Holding.{copies_inherit}
use Rattle.gs_laws_chunks.proofs.accounts.copies_inherit.Goals as goal

pub returns-clause-inherit : goal.returns-clause-inherit
returns-clause-inherit g c x = copies_inherit c.configurations_have_sizes.ensures c.a_message_edits_a_replica_by_what_it_says.ensures.edit x

pub returns-clause-views : goal.returns-clause-views
returns-clause-views g c x = copies_are_of_views c.configurations_have_sizes.ensures c.a_message_edits_a_replica_by_what_it_says.ensures.edit x
