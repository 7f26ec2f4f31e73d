use Rattle.gs_image.proofs.Finding.{Standing}
use Rattle.gs_image.proofs.reading.parts_at.Given as goal

abbrev pub invariant-loop-index : goal.invariant-loop-index
invariant-loop-index l = Standing l.parts.items l.index l.rest l.bytes
