use Rattle.gs_laws_moves.proofs.lemmas.moves.Moved.{each_moved_so}
use Rattle.gs_laws_moves.proofs.moves.each_move_goes_on_with_a_chunk.Goals as goal

pub returns : goal.returns
returns c = each_moved_so
