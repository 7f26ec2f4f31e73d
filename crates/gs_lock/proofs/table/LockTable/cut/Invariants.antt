use Rattle.std.proofs.Common.{◌≡◌, length, take}
use Rattle.gs_lock.specs.Indexes.{IsIndexed}
use Rattle.gs_lock.proofs.table.LockTable.cut.Given as goal

abbrev pub invariant-loop-self : goal.invariant-loop-self
invariant-loop-self l = (take l.len l.self-inside.locks.items ≡ take l.len l.fn.self) × IsIndexed l.self-inside.locks.items l.self-inside.index

abbrev pub decreases-loop-self : goal.decreases-loop-self
decreases-loop-self l = length l.self-inside.locks.items
