use Rattle.std.specs.Prelude.{◌≡◌, [], replicate}
use Rattle.gs_world.specs.Sent.{all_posts}
use Rattle.gs_world.proofs.posts.silent.Given as goal

abbrev pub invariant-loop-before : goal.invariant-loop-before
invariant-loop-before l = all_posts l.outboxes.items ≡ replicate l._before []
