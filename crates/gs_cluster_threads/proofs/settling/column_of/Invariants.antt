use Rattle.gs_cluster_threads.proofs.Ears.{Splitting}
use Rattle.gs_cluster_threads.proofs.settling.column_of.Given as goal

abbrev pub invariant-loop-row : goal.invariant-loop-row
invariant-loop-row g l = Splitting l.fn.rows.items l.row-iterator.rest.items l.left.items l.column.items
