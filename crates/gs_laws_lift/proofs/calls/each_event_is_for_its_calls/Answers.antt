use Rattle.gs_laws_lift.proofs.lemmas.calls.Events.{cuts_are_asked_for, events_are_asked_for, runs_are_asked_for, steps_are_asked_for}
use Rattle.gs_laws_lift.proofs.calls.each_event_is_for_its_calls.Goals as goal

pub returns : goal.returns
returns c = record { events = events_are_asked_for; steps = steps_are_asked_for; cuts = cuts_are_asked_for; runs = runs_are_asked_for }
