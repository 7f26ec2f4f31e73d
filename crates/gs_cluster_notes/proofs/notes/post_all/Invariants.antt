use Rattle.std.proofs.Common.{◌≡◌, ◌++◌, map, take}
use Rattle.gs_msg.specs.Posts.{posted}
use Rattle.gs_cluster_notes.proofs.notes.post_all.Given as goal

abbrev pub invariant-loop-message : goal.invariant-loop-message
invariant-loop-message l = l.outbox.posts ≡ l.fn.outbox.posts ++ map (posted l.moment) (take l.message-index l.messages)
