use Rattle.gs_laws_moves.proofs.lemmas.moves.Asked.{each_move_asks_so, starts_asked_so, stays_asked_so}
use Rattle.gs_laws_moves.proofs.moves.what_is_in_memory_was_asked_and_said.Goals as goal

pub returns : goal.returns
returns c = record { moves = each_move_asks_so; stays = stays_asked_so; starts = starts_asked_so }
