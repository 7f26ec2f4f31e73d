use Rattle.gs_laws_moves.proofs.lemmas.moves.Made.{ticks_are_chains}
use Rattle.gs_laws_moves.proofs.moves.a_tick_without_its_checkpoint_is_a_chain_of_moves.Goals as goal

pub returns : goal.returns
returns c = ticks_are_chains
