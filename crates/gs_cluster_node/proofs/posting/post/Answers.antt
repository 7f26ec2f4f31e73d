use Rattle.std.proofs.Common.{subst, sym}
use Rattle.gs_msg.specs.declared.node.NodeId.{NodeId}
use Rattle.gs_cluster_node.specs.Nodes.{AllListed}
use Rattle.gs_cluster_node.proofs.Listing.{routed_for}
use Rattle.gs_cluster_node.proofs.posting.post.Goals as goal

pub put_listed-requires-clause-all : goal.put_listed-requires-clause-all
put_listed-requires-clause-all g c = subst (λ (n : NodeId). AllListed n c.args.log.now.sent c.args.ways.now.items) (sym c.requires.stands.0) c.requires.all

pub returns-in-Some-clause-routes : goal.returns-in-Some-clause-routes
returns-in-Some-clause-routes g c = routed_for c.args.me.now c.args.log.now.sent c.args.sent c.args.ways.now.items c.put_listed.new.ways.items c.requires.stands.0 c.put_listed.ensures.routes

pub returns-in_default-clause-routes : goal.returns-in_default-clause-routes
returns-in_default-clause-routes g c = routed_for c.args.me.now c.args.log.now.sent c.args.sent c.args.ways.now.items c.put_listed.new.ways.items c.requires.stands.0 c.put_listed.ensures.routes
