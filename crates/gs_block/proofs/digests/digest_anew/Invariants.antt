use Rattle.std.proofs.Common.{◌≡◌, length}
use Rattle.gs_block.proofs.Anew.{anew_to}
use Rattle.gs_block.proofs.digests.digest_anew.Given as goal

abbrev pub invariant-loop-index : goal.invariant-loop-index
invariant-loop-index l = record {
  long : length l.digests ≡ length l.fn.digests;
  anew : l.digests ≡ anew_to l.fn.size l.fn.bytes l.fn.digests l.first l.last l.index;
}
