use Rattle.gs_laws_master.proofs.lemmas.rooms.RoomsOfTurns.{messages_counted, ticks_counted}
use Rattle.gs_laws_master.proofs.logs_count_their_records.Goals as goal

pub returns : goal.returns
returns c = record { messages = messages_counted; ticks = ticks_counted }
