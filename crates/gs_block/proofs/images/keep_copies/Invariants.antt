use Rattle.std.proofs.Common.{◌≡◌, ◌+◌, ◌-◌, ◌≤◌, length}
use Rattle.gs_block.specs.Inside.{kept_images}
use Rattle.gs_block.proofs.images.keep_copies.Given as goal

abbrev pub invariant-loop-copy : goal.invariant-loop-copy
invariant-loop-copy l = record {
  at : l.index ≡ l.fn.first + length l.yielded;
  room : length l.copy-iterator.rest.items ≤ length l.fn.images - l.index;
  long : length l.images ≡ length l.fn.images;
  kept : l.images ≡ kept_images l.fn.images l.fn.first l.yielded;
}
