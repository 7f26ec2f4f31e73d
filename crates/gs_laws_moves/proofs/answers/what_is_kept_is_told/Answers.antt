use Rattle.gs_laws_moves.proofs.lemmas.answers.Kept.{kept_told}
use Rattle.gs_laws_moves.proofs.answers.what_is_kept_is_told.Goals as goal

pub returns : goal.returns
returns c = kept_told
