use Rattle.std.proofs.Common.{◌≡◌, take}
use Rattle.gs_lock.specs.Locks.{released}
use Rattle.gs_lock.proofs.table.LockTable.copy_without.Given as goal

abbrev pub invariant-loop-lock : goal.invariant-loop-lock
invariant-loop-lock l = l.table ≡ released (take l.lock-index l.self) l.fn.op
