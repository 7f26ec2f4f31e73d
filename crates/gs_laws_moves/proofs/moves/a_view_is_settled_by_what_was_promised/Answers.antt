use Rattle.gs_laws_moves.proofs.lemmas.moves.Settling.{settles_by_answers}
use Rattle.gs_laws_moves.proofs.moves.a_view_is_settled_by_what_was_promised.Goals as goal

pub returns : goal.returns
returns c = settles_by_answers
