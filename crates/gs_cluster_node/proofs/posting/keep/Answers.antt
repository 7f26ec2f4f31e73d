use Rattle.std.specs.Result.{is_ok}
use Rattle.gs_cluster_node.proofs.Listing.{own_if}
use Rattle.gs_cluster_node.proofs.posting.keep.Goals as goal

pub returns : goal.returns
returns c = own_if c.args.me.now c.args.log.now.sent c.args.copies.now.items c.push.new.self.items c.args.sent (is_ok c.push.result) c.push.ensures.items c.requires.own c.requires.stands
