use Rattle.gs_laws_moves.proofs.lemmas.moves.Quieted.{prepares_quiet}
use Rattle.gs_laws_moves.proofs.moves.a_prepare_finds_each_chunk_quiet.Goals as goal

pub returns : goal.returns
returns c = prepares_quiet
