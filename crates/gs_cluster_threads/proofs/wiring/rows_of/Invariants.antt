use Rattle.gs_cluster_threads.proofs.Joining.{Cut}
use Rattle.gs_cluster_threads.proofs.wiring.rows_of.Given as goal

abbrev pub invariant-loop-cut : goal.invariant-loop-cut
invariant-loop-cut g l = Cut l.fn.berths.items l.cut l.berths.items l.rows.items
