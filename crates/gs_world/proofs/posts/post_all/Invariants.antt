use Rattle.gs_world.specs.Sent.{Appends, Line}
use Rattle.gs_world.proofs.posts.post_all.Given as goal

abbrev pub invariant-loop-message : goal.invariant-loop-message
invariant-loop-message l =
    (new : Line) → Appends l.moment l.message-iterator.rest.items (l.outbox.posts, l.lost) new → Appends l.fn.moment l.fn.sent.items (l.initial.outbox.posts, l.fn.has_lost) new
