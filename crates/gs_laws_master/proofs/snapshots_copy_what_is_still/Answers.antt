use Rattle.gs_laws_master.proofs.lemmas.rooms.RoomsOfTurns.{messages_copy_still, ticks_copy_still}
use Rattle.gs_laws_master.proofs.snapshots_copy_what_is_still.Goals as goal

pub returns : goal.returns
returns c = record { messages = messages_copy_still; ticks = ticks_copy_still }
