use Rattle.gs_laws_moves.proofs.lemmas.moves.Over.{over_makes_no_edit, over_makes_no_edit_later, refused_are_told}
use Rattle.gs_laws_moves.proofs.lemmas.moves.Refused.{refused_makes_no_edit}
use Rattle.gs_laws_moves.proofs.moves.a_request_that_is_over_makes_no_edit.Goals as goal

pub returns : goal.returns
returns c = record { event = over_makes_no_edit; later = over_makes_no_edit_later; told = refused_are_told; refused = refused_makes_no_edit }
