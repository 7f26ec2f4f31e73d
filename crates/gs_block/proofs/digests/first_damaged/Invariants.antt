use Rattle.std.proofs.Common.{◌≡◌, ◌-◌}
use Rattle.gs_block.specs.Stored.{first_damaged}
use Rattle.gs_block.proofs.digests.first_damaged.Given as goal

abbrev pub invariant-loop-index : goal.invariant-loop-index
invariant-loop-index l = first_damaged l.fn.size l.fn.bytes l.fn.digests l.fn.first (l.fn.end - l.fn.first) ≡ first_damaged l.fn.size l.fn.bytes l.fn.digests l.index (l.fn.end - l.index)
