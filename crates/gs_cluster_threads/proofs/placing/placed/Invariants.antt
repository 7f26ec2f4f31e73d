use Rattle.gs_cluster_history.specs.Setting.{all_ids}
use Rattle.gs_cluster_threads.proofs.Places.{Placing}
use Rattle.gs_cluster_threads.proofs.placing.placed.Given as goal

abbrev pub invariant-loop-node : goal.invariant-loop-node
invariant-loop-node g l = Placing (all_ids g.N.Plan.setting) l.fn.nodes.items l.node-iterator.rest.items l.places.items
