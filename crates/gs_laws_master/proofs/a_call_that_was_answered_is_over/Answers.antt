use Rattle.gs_laws_master.proofs.lemmas.refusals.Refusing.{older_are_over, over_make_nothing, refused_are_over}
use Rattle.gs_laws_master.proofs.a_call_that_was_answered_is_over.Goals as goal

pub returns : goal.returns
returns c = record { refused = refused_are_over; older = older_are_over; again = over_make_nothing }
