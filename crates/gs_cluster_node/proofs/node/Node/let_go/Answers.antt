use Rattle.gs_cluster_node.proofs.Listing.{own_none}
use Rattle.gs_cluster_node.proofs.node.Node.let_go.Goals as goal

pub invariant_of-self : goal.invariant_of-self
invariant_of-self g c =
    let agrees = c.self.invariant.1 in
    (c.self.invariant.0, record { counts = agrees.counts; waits = agrees.waits; own = own_none _ _ _ c.new.ensures.items; keeps = agrees.keeps })
