use Rattle.gs_laws_moves.proofs.lemmas.moves.Fitting.{cuts_are_beginnings}
use Rattle.gs_laws_moves.proofs.moves.a_chain_that_is_cut_is_a_beginning_of_one.Goals as goal
use Rattle.gs_laws_moves.specs.moves.Guards.{IsMade}

pub returns : goal.returns
returns c = λ config heard. cuts_are_beginnings (IsMade config heard)
