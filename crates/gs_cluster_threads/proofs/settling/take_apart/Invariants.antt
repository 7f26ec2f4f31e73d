use Rattle.gs_cluster_history.specs.Setting.{all_ids}
use Rattle.gs_cluster_threads.proofs.Ears.{TakenApart}
use Rattle.gs_cluster_threads.proofs.settling.take_apart.Given as goal

abbrev pub invariant-loop-node : goal.invariant-loop-node
invariant-loop-node g l =
    TakenApart g.C.Core.Does (g.C.Core.Starts g.N.Plan.setting) (all_ids g.N.Plan.setting) l.fn.nodes.items l.node-iterator.rest.items l.members.items l.rows.items l.ears.items l.all_notes.items
