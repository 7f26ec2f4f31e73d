use Rattle.gs_laws_lift.proofs.lemmas.calls.Told.{kept_are_for, parts_tell_for, sent_are_for}
use Rattle.gs_laws_lift.proofs.calls.a_location_is_of_the_place_that_was_asked.Goals as goal

pub returns : goal.returns
returns c = record { sent = sent_are_for; kept = kept_are_for; parts = parts_tell_for }
