use Rattle.std.proofs.Common.{◌≡◌, ◌++◌, take}
use Rattle.gs_lock.specs.Locks.{locks_on}
use Rattle.gs_lock.proofs.table.LockTable.add_all.Given as goal

abbrev pub invariant-loop-path : goal.invariant-loop-path
invariant-loop-path l = l.self ≡ l.fn.self ++ locks_on l.op l.writes (take l.path-index l.paths)
