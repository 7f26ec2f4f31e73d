use Rattle.std.proofs.Common.{refl}
use Rattle.gs_world.proofs.Posting.{forgotten_there}
use Rattle.gs_world.proofs.posts.forget_in.Goals as goal

pub returns-in-Some : goal.returns-in-Some
returns-in-Some c =
    forgotten_there c.args.outboxes.now.items _ c.args.node c.args.place c.in-Some.outbox.now c.forget.new.self
    c.in-Some.ensures.item.3.0 c.in-Some.ensures.item.1 c.forget.ensures.posts refl
