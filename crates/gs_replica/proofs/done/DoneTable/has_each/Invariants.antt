use Rattle.std.proofs.Common.{◌≡◌}
use Rattle.std.specs.List.{list_all}
use Rattle.gs_replica.specs.Inside.{has_one, has_each}
use Rattle.gs_replica.proofs.done.DoneTable.has_each.Given as goal

abbrev pub invariant-loop-client : goal.invariant-loop-client
invariant-loop-client l = list_all (has_one l.self) l.client-iterator ≡ has_each l.first l.self
