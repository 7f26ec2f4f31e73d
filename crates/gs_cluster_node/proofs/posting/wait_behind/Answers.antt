use Rattle.std.specs.Result.{is_ok}
use Rattle.gs_cluster_node.proofs.Listing.{own_if}
use Rattle.gs_cluster_node.proofs.posting.wait_behind.Goals as goal

pub returns : goal.returns
returns c = own_if c.args.me.now c.args.log.now.sent c.args.waiting.now.items c.push_back.new.self.items c.args.sent (is_ok c.push_back.result) c.push_back.ensures.items c.requires.own c.requires.stands
