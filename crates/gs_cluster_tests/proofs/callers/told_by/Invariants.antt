use Rattle.std.specs.Prelude.{vec_len}
use Rattle.gs_cluster_tests.proofs.callers.told_by.Given as goal

abbrev pub invariant-loop-handle : goal.invariant-loop-handle
invariant-loop-handle g l = Unit {0}

abbrev pub decreases-loop-handle : goal.decreases-loop-handle
decreases-loop-handle g l = vec_len l.handles
