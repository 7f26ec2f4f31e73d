use Rattle.gs_laws_runs.proofs.lemmas.plain.Copying.{copies_of_places}
use Rattle.gs_laws_runs.proofs.plain.copies_are_of_what_stands_at_their_places.Goals as goal

pub returns : goal.returns
returns g c x = copies_of_places c.configurations_have_sizes.ensures c.a_message_edits_a_replica_by_what_it_says.ensures.edit x
