use Rattle.gs_laws_moves.proofs.lemmas.moves.Awaited.{each_move_awaits, known_are_sought, starts_awaited, stays_awaited}
use Rattle.gs_laws_moves.proofs.moves.a_new_chunk_is_settled_or_asked_for.Goals as goal

pub returns : goal.returns
returns c = record { moves = each_move_awaits; stays = stays_awaited; starts = starts_awaited; known = known_are_sought }
