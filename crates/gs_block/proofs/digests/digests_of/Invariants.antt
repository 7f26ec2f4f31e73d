use Rattle.std.proofs.Common.{◌≡◌}
use Rattle.gs_block.specs.Stored.{digests_from}
use Rattle.gs_block.proofs.digests.digests_of.Given as goal

abbrev pub invariant-loop-index : goal.invariant-loop-index
invariant-loop-index l = l.digests.items ≡ digests_from l.fn.size l.fn.bytes 0 l.index
