use Rattle.gs_laws_lift.proofs.lemmas.copies.Put.{once_over}
use Rattle.gs_laws_lift.proofs.lemmas.copies.Told.{chain_new}
use Rattle.gs_laws_lift.proofs.copies.new_chunks_are_told_as_calls_wait_for_them.Goals as goal
use Rattle.gs_laws_lift.specs.copies.Told.{NotTold}
use Rattle.gs_laws_moves.proofs.lemmas.moves.Fitting.{once_chain}
use Rattle.gs_laws_moves.specs.moves.Laws.{IsMadeWell}

pub returns-clause-stays : goal.returns-clause-stays
returns-clause-stays c otherwise config heard s t turn k = chain_new config heard (NotTold otherwise) s t (once_chain config (IsMadeWell config heard) s t turn) k

pub returns-clause-put : goal.returns-clause-put
returns-clause-put c otherwise config heard s t turn k = once_over config heard (NotTold otherwise) s t turn k
