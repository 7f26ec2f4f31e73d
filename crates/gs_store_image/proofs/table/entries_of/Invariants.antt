use Rattle.std.proofs.Common.{◌≡◌, ◌++◌, map}
use Rattle.std.specs.FinMap as fin
use Rattle.gs_store_image.proofs.table.entries_of.Given as goal

abbrev pub invariant-loop-client : goal.invariant-loop-client
invariant-loop-client l = map (λ e. (e.0, e.1.done)) l.entries.items ++ l.client-iterator ≡ fin.entries l.table
