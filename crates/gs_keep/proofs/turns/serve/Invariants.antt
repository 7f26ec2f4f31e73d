use Rattle.std.proofs.Common.{◌≡◌, false, IfSome}
use Rattle.gs_keep.proofs.Rounds.{SoFar}
use Rattle.gs_keep.proofs.turns.serve.Given as goal

abbrev pub invariant-loop-count : goal.invariant-loop-count
invariant-loop-count g l = record {
  goes_on : g.L.Log.has_failed l.log ≡ false;
  so_far : IfSome (g.R.Read.remaining l.fn.reader.reader) (λ xs. SoFar g.M.Answering.Answers g.M.Keeping.is_kept g.M.Keeping.is_turned_away g.M.Keeping.own l.count l.fn.machine xs (g.R.Read.remaining l.reader.reader)
      (g.L.Log.holds l.fn.log) (g.L.Log.holds l.log) (g.W.Write.contents l.fn.writer.writer) (g.W.Write.contents l.writer.writer) l.fn.ledger l.ledger l.machine);
}
