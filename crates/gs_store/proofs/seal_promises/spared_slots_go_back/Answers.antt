use Rattle.gs_store.proofs.Sparing.{run_same, spared_back}
use Rattle.gs_store.proofs.seal_promises.spared_slots_go_back.Goals as goal

pub returns-clause-stays : goal.returns-clause-stays
returns-clause-stays c = run_same

pub returns-clause-live : goal.returns-clause-live
returns-clause-live c = spared_back
