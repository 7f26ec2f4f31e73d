use Rattle.gs_lease_table.specs.Groups.{AreEmpty}
use Rattle.gs_lease_table.proofs.groups.empty_sets.Given as goal

abbrev pub invariant-loop-group : goal.invariant-loop-group
invariant-loop-group l = AreEmpty l.sets.items
