use Rattle.std.proofs.Common.{sym, ap, subst}
use Rattle.gs_msg.specs.declared.node.NodeId.{NodeId}
use Rattle.gs_msg.specs.declared.sent.Sent.{Sent}
use Rattle.gs_cluster_node.specs.Nodes.{AllListed}
use Rattle.gs_cluster_node.specs.inner.Acting.{Routes}
use Rattle.gs_cluster_node.proofs.posting.put_copy.Goals as goal

pub put_listed-requires-clause-all : goal.put_listed-requires-clause-all
put_listed-requires-clause-all g c = subst (λ (n : NodeId). AllListed n c.args.log.now.sent c.args.ways.now.items) (sym (ap (λ (x : Sent). x.from) c.in-Ok.ensures)) c.requires.all

pub returns : goal.returns
returns g c = subst (λ (n : NodeId). Routes n c.args.log.now.sent c.args.ways.now.items c.put_listed.new.ways.items) (ap (λ (x : Sent). x.from) c.in-Ok.ensures) c.put_listed.ensures.routes
