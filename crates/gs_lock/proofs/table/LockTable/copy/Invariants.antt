use Rattle.std.proofs.Common.{◌≡◌, take}
use Rattle.gs_lock.proofs.table.LockTable.copy.Given as goal

abbrev pub invariant-loop-lock : goal.invariant-loop-lock
invariant-loop-lock l = l.table ≡ take l.lock-index l.self
