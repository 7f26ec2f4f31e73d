use Rattle.std.proofs.Common.{ℕ, ◌-◌, ◌*◌, ◌<◌, min, get_or}
use Rattle.std.specs.Prelude.{None}
use Rattle.gs_block.specs.Images.{IsImage}
use Rattle.gs_block.proofs.images.are_whole.Given as goal

abbrev pub invariant-loop-index : goal.invariant-loop-index
invariant-loop-index l = (k : ℕ) → k < l.index → IsImage (min l.fn.size (l.fn.long - k * l.fn.size)) (get_or l.fn.images k None)
