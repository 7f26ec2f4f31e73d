use Rattle.gs_laws_moves.proofs.lemmas.moves.Places.{edits_spare}
use Rattle.gs_laws_moves.proofs.moves.an_edit_leaves_what_it_does_not_touch.Goals as goal

pub returns : goal.returns
returns c = edits_spare
