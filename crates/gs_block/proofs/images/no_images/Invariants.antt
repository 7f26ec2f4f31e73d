use Rattle.std.proofs.Common.{◌≡◌, replicate}
use Rattle.std.specs.Prelude.{None}
use Rattle.gs_block.proofs.images.no_images.Given as goal

abbrev pub invariant-loop : goal.invariant-loop
invariant-loop l = l.images.items ≡ replicate l.counter None
