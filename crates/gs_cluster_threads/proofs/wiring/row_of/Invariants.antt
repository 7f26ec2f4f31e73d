use Rattle.gs_cluster_threads.proofs.Joining.{Rowing}
use Rattle.gs_cluster_threads.proofs.wiring.row_of.Given as goal

abbrev pub invariant-loop-berth : goal.invariant-loop-berth
invariant-loop-berth g l = Rowing l.fn.parts l.fn.berths.items l.berth-iterator.rest.items l.left.items l.ways.items
