use Rattle.std.proofs.Common.{◌≡◌}
use Rattle.gs_store.specs.Slots.{take_lease}
use Rattle.gs_store.specs.Calls.{called}
use Rattle.gs_store.proofs.Laws.{of_ok}
use Rattle.gs_store.proofs.Running.{IsSpent, taken_spent, run_spent, spent_refused, keeps}
use Rattle.gs_store.proofs.promises.leases_are_taken_once.Goals as goal

pub returns-clause-once : goal.returns-clause-once
returns-clause-once c block chunk stamp s s2 end calls taken leads =
    spent_refused stamp end (run_spent block chunk stamp s2 end calls (of_ok (IsSpent stamp) (take_lease stamp s) s2 taken (taken_spent stamp s)) leads)

pub returns-clause-others : goal.returns-clause-others
returns-clause-others c block chunk call s s2 none is = of_ok (λ x. x.taken ≡ s.taken) (called block chunk call s) s2 is (keeps block chunk call s none)
