use Rattle.gs_store.specs.Whole.{IsSlotOf}
use Rattle.gs_store.specs.Calls.{called}
use Rattle.gs_store.proofs.Laws.{of_ok}
use Rattle.gs_store.proofs.Keeping.{stays_whole, nothing_whole}
use Rattle.gs_store.proofs.promises.slots_stay_whole.Goals as goal

pub returns-clause-new : goal.returns-clause-new
returns-clause-new c block chunk = nothing_whole block chunk

pub returns-clause-call : goal.returns-clause-call
returns-clause-call c block chunk call s s2 fits whole is = of_ok (IsSlotOf block chunk) (called block chunk call s) s2 is (stays_whole block chunk call s fits whole)
