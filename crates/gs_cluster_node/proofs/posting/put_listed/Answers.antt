use Rattle.gs_cluster_node.proofs.Listing.{one_routed}
use Rattle.gs_cluster_node.proofs.posting.put_listed.Goals as goal

pub returns-clause-routes : goal.returns-clause-routes
returns-clause-routes g c = one_routed c.args.log.now.sent c.args.sent _ _ c.requires.listed c.requires.all c.put_one.ensures.ways
