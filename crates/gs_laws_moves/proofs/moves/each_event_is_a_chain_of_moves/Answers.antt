use Rattle.gs_laws_moves.proofs.lemmas.moves.Made.{events_are_chains}
use Rattle.gs_laws_moves.proofs.moves.each_event_is_a_chain_of_moves.Goals as goal

pub returns : goal.returns
returns c = events_are_chains
