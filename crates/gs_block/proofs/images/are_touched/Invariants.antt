use Rattle.std.proofs.Common.{◌≡◌, ◌-◌, map}
use Rattle.std.specs.Prelude.{is_some}
use Rattle.gs_block.specs.Images.{all_touched}
use Rattle.gs_block.proofs.images.are_touched.Given as goal

abbrev pub invariant-loop-index : goal.invariant-loop-index
invariant-loop-index l = all_touched (map is_some l.fn.images) l.fn.first (l.fn.last - l.fn.first) ≡ all_touched (map is_some l.fn.images) l.index (l.fn.last - l.index)
