use Rattle.gs_laws_master.proofs.lemmas.rooms.RoomsOfTurns.{others_leave, restarts_forget, steps_leave, tells_add, tells_of, tells_since, ticks_leave}
use Rattle.gs_laws_master.proofs.who_has_told_is_who_has_learned.Goals as goal

pub returns : goal.returns
returns c = record { added = tells_add; of_each = tells_of; others = others_leave; ticks = ticks_leave; steps = steps_leave; restarts = restarts_forget; since = tells_since }
