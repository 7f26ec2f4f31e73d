use Rattle.std.proofs.Common.{◌≡◌, ◌-◌, length}
use Rattle.gs_block.specs.Stored.{first_damaged}
use Rattle.gs_block.specs.Images.{bytes_before}
use Rattle.gs_block.proofs.images.first_damaged_before.Given as goal

abbrev pub invariant-loop-index : goal.invariant-loop-index
invariant-loop-index l =
    first_damaged l.fn.sealed.size (bytes_before l.fn.sealed.size l.fn.images l.fn.sealed.long l.fn.sealed.bytes.now) l.fn.digests 0 (length l.fn.digests) ≡ first_damaged l.fn.sealed.size (bytes_before l.fn.sealed.size l.fn.images l.fn.sealed.long l.fn.sealed.bytes.now) l.fn.digests l.index (length l.fn.digests - l.index)
