use Rattle.std.proofs.Common.{◌≡◌, ◌-◌, ◌≤◌, true, length, take}
use Rattle.std.specs.Prelude.{not}
use Rattle.std.specs.List.{list_all}
use Rattle.gs_lock.specs.Operations.{same_op}
use Rattle.gs_lock.specs.Locks.{released}
use Rattle.gs_lock.specs.Indexes.{IsIndexed}
use Rattle.gs_lock.proofs.table.LockTable.release.Given as goal

abbrev pub invariant-loop-i : goal.invariant-loop-i
invariant-loop-i l =
    (released l.self-inside.locks.items l.op ≡ released l.fn.self l.op)
    × (list_all (λ lock. not (same_op l.op lock.op)) (take l.i l.self-inside.locks.items) ≡ true)
    × (l.i ≤ length l.self-inside.locks.items)
    × IsIndexed l.self-inside.locks.items l.self-inside.index

abbrev pub decreases-loop-i : goal.decreases-loop-i
decreases-loop-i l = length l.self-inside.locks.items - l.i
