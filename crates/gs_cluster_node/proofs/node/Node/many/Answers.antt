use Rattle.std.proofs.Common.{List, ap, length, sym, ◌∙◌}
use Rattle.gs_cluster_channel.specs.Settled.{Putting}
use Rattle.gs_msg.specs.declared.node.NodeId.{NodeId}
use Rattle.gs_cluster_node.proofs.Stepping.{map_length}
use Rattle.gs_cluster_node.proofs.node.Node.many.Goals as goal

pub returns : goal.returns
returns g c =
    c.len.ensures ∙ c.self.inside.ways.ok.0 ∙ sym (map_length (λ (w : Putting). w.to) c.self.inside.ways.items) ∙ ap (λ (ns : List NodeId). length ns) c.self.invariant.0.leads
