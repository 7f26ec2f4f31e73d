use Rattle.std.proofs.Common.{◌≡◌, ◌++◌}
use Rattle.gs_edit.proofs.scan.in_order.Given as goal

abbrev pub invariant-loop-removal : goal.invariant-loop-removal
invariant-loop-removal l = l.paths.items ++ l.removal-iterator.rest.items ≡ l.initial.removal-iterator.rest.items
