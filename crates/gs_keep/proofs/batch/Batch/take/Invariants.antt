use Rattle.std.proofs.Common.{IfSome}
use Rattle.gs_keep.proofs.Running.{RunsSoFar}
use Rattle.gs_keep.proofs.batch.Batch.take.Given as goal

abbrev pub invariant-loop-count : goal.invariant-loop-count
invariant-loop-count g l = IfSome (g.R.Read.remaining l.fn.reader.reader) (λ xs. RunsSoFar g.M.Answering.Answers g.M.Keeping.is_kept g.M.Keeping.is_turned_away g.M.Keeping.own l.count xs (g.R.Read.remaining l.reader.reader)
    l.fn.machine l.machine l.self.bytes.items l.self.answers.items l.fn.ledger l.ledger)
