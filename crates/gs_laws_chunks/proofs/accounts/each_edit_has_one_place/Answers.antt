use Rattle.gs_laws_chunks.proofs.lemmas.accounts.OnePlace.{edits_have_one_place}
use Rattle.gs_laws_chunks.proofs.accounts.each_edit_has_one_place.Goals as goal

pub returns : goal.returns
returns g c x = edits_have_one_place c.configurations_have_sizes.ensures c.a_message_edits_a_replica_by_what_it_says.ensures.edit x
