use Rattle.std.proofs.Common.{refl}
use Rattle.gs_world.proofs.Posting.{posted_there}
use Rattle.gs_world.proofs.posts.post_in.Goals as goal

pub returns-in-Some : goal.returns-in-Some
returns-in-Some c =
    posted_there c.args.outboxes.now.items _ c.args.node c.args.moment c.args.sent.items c.args.has_lost c.post_all.result c.in-Some.outbox.now c.post_all.new.outbox
    c.in-Some.ensures.item.3.0 c.in-Some.ensures.item.1 c.post_all.ensures refl
