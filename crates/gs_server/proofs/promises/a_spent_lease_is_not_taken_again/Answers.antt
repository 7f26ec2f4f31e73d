use Rattle.gs_server.proofs.promises.a_spent_lease_is_not_taken_again.Goals as goal
use Rattle.std.specs.FinMap as fin
use Rattle.std.specs.Ordering.{nat_cmp}
use Rattle.gs_server.proofs.Keeping.{spent_stays, below_stays}

pub returns-clause-grant : goal.returns-clause-grant
returns-clause-grant c = λ h p given taken. spent_stays h p given taken

pub returns-clause-below : goal.returns-clause-below
returns-clause-below c = λ h p given apart. below_stays h p given apart

pub returns-clause-restart : goal.returns-clause-restart
returns-clause-restart c = λ handle s stamp taken. record { taken = taken; none = fin.get-empty nat_cmp handle }
