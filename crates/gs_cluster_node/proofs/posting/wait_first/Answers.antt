use Rattle.std.specs.Result.{is_ok}
use Rattle.gs_cluster_node.proofs.Listing.{own_again}
use Rattle.gs_cluster_node.proofs.posting.wait_first.Goals as goal

pub returns : goal.returns
returns c = own_again c.args.me.now c.args.log.now.sent c.args.waiting.now.items c.push_front.new.self.items c.args.sent (is_ok c.push_front.result) c.push_front.ensures.items c.requires.own c.requires.stands
