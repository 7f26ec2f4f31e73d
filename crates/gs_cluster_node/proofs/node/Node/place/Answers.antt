use Rattle.std.proofs.Common.{List, subst, sym}
use Rattle.gs_msg.specs.declared.node.NodeId.{NodeId}
use Rattle.gs_cluster_history.specs.Histories.{Among}
use Rattle.gs_cluster_node.proofs.node.Node.place.Goals as goal

pub place_of-requires : goal.place_of-requires
place_of-requires g c = subst (λ (ns : List NodeId). Among ns c.self.inside.me) (sym c.self.invariant.0.leads) c.self.invariant.0.mine
