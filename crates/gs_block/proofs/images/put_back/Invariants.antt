use Rattle.gs_block.proofs.Restoring.{PutTo}
use Rattle.gs_block.proofs.images.put_back.Given as goal

abbrev pub invariant-loop-index : goal.invariant-loop-index
invariant-loop-index l = PutTo l.fn.size l.fn.long l.fn.images l.fn.bytes.items l.bytes.items l.index
