use Rattle.gs_laws_master.proofs.lemmas.rooms.RoomsOfTurns.{logs_stay_within, messages_have_room, runs_stay_within, steps_have_room, ticks_have_room}
use Rattle.gs_laws_master.proofs.each_event_has_room.Goals as goal

pub returns : goal.returns
returns c = record { messages = messages_have_room; steps = steps_have_room; ticks = ticks_have_room; within = logs_stay_within; runs = runs_stay_within }
