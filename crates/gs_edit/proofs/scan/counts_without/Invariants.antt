use Rattle.std.proofs.Common.{◌≡◌, drop}
use Rattle.std.specs.FinMap.{entries}
use Rattle.gs_refs.specs.Counts.{lowered_each}
use Rattle.gs_edit.proofs.Freed.{under_each}
use Rattle.gs_edit.proofs.scan.counts_without.Given as goal

abbrev pub invariant-loop-path : goal.invariant-loop-path
invariant-loop-path l = lowered_each l.rest (under_each (entries l.tree) (drop l.path-index l.paths)) ≡ lowered_each l.initial.rest (under_each (entries l.tree) l.paths)
