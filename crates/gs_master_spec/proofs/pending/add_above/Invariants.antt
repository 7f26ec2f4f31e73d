use Rattle.std.proofs.Common.{◌≡◌, ◌++◌, take}
use Rattle.gs_master_spec.specs.Volatile.{above}
use Rattle.gs_master_spec.proofs.pending.add_above.Given as goal

abbrev pub invariant-loop-name : goal.invariant-loop-name
invariant-loop-name l = (l.front ≡ take l.name-index l.path) × (l.paths.items ≡ l.initial.paths.items ++ above l.front)
