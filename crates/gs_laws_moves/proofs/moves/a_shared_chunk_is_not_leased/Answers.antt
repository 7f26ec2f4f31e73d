use Rattle.gs_laws_moves.proofs.lemmas.moves.Sharing.{each_move_shares, starts_shared, stays_shared}
use Rattle.gs_laws_moves.proofs.moves.a_shared_chunk_is_not_leased.Goals as goal

pub returns : goal.returns
returns c = record { moves = each_move_shares; stays = stays_shared; starts = starts_shared }
