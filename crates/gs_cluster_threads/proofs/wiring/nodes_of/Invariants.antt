use Rattle.gs_cluster_history.specs.Setting.{all_ids}
use Rattle.gs_cluster_threads.proofs.Joining.{Beginning}
use Rattle.gs_cluster_threads.proofs.wiring.nodes_of.Given as goal

abbrev pub invariant-loop-berth : goal.invariant-loop-berth
invariant-loop-berth g l = Beginning (g.C.Core.Starts g.N.Plan.setting) (all_ids g.N.Plan.setting) l.fn.berths.items l.berth-iterator.rest.items l.rows.items l.nodes.items
