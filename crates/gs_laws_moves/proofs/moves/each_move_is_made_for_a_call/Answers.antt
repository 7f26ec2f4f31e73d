use Rattle.gs_laws_moves.proofs.lemmas.moves.Made.{events_are_for, ticks_are_for}
use Rattle.gs_laws_moves.proofs.lemmas.moves.Stands.{events_stand_for}
use Rattle.gs_laws_moves.proofs.moves.each_move_is_made_for_a_call.Goals as goal

pub returns : goal.returns
returns c = record { events = events_are_for; ticks = ticks_are_for; stand = events_stand_for }
