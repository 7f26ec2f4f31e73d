use Rattle.std.proofs.Common.{◌≡◌, take, map}
use Rattle.std.specs.Prelude.{is_some}
use Rattle.gs_block.specs.Images.{image_bytes}
use Rattle.gs_block.proofs.images.held_bytes.Given as goal

abbrev pub invariant-loop-index : goal.invariant-loop-index
invariant-loop-index l = l.many ≡ image_bytes l.fn.size l.fn.long 0 (map is_some (take l.index l.fn.images))
