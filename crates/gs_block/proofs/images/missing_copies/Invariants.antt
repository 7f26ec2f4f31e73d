use Rattle.std.proofs.Common.{◌≡◌, ◌-◌, ◌≤◌}
use Rattle.gs_block.specs.Images.{copies_from}
use Rattle.gs_block.proofs.images.missing_copies.Given as goal

abbrev pub invariant-loop-index : goal.invariant-loop-index
invariant-loop-index l = record {
  within : l.index - l.fn.first ≤ l.fn.last - l.fn.first;
  copies : l.copies.items ≡ copies_from l.fn.sealed.size l.fn.sealed.long l.fn.images l.fn.sealed.bytes.now l.fn.first (l.index - l.fn.first);
}
