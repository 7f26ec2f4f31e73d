use Rattle.gs_store.proofs.Rolling.{named_whole}
use Rattle.gs_store.proofs.seal_promises.rollbacks_give_what_was_sealed.Goals as goal

pub returns-clause-named : goal.returns-clause-named
returns-clause-named c epoch s whole = named_whole epoch s whole
