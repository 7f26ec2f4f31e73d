use Rattle.std.proofs.Common.{◌≡◌}
use Rattle.std.specs.FinMap as fin
use Rattle.gs_replica.specs.First.{done_before}
use Rattle.gs_replica.specs.Inside.{HasSealed}
use Rattle.gs_replica.proofs.done.DoneTable.put_back.Given as goal

abbrev pub invariant-loop-client : goal.invariant-loop-client
invariant-loop-client l = (done_before l.left l.self ≡ done_before l.fn.first l.fn.self) × HasSealed l.left l.self

abbrev pub decreases-loop-client : goal.decreases-loop-client
decreases-loop-client l = fin.len l.left
