use Rattle.gs_cluster_threads.proofs.Ears.{Settling}
use Rattle.gs_cluster_threads.proofs.settling.settle_all.Given as goal

abbrev pub invariant-loop-ear : goal.invariant-loop-ear
invariant-loop-ear g l = Settling l.initial.ears.items l.initial.rows.items l.ears.items l.rows.items

abbrev pub decreases-loop-ear : goal.decreases-loop-ear
decreases-loop-ear g l = l.ears.len
