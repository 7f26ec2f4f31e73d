use Rattle.gs_laws_lift.proofs.lemmas.copies.Held.{held_starts, turn_held}
use Rattle.gs_laws_lift.proofs.copies.a_place_that_a_call_copies_is_held.Goals as goal

pub returns-clause-stays : goal.returns-clause-stays
returns-clause-stays c config heard s t turn calm k = turn_held config heard s t turn calm k

pub returns-clause-starts : goal.returns-clause-starts
returns-clause-starts c = held_starts
