use Rattle.gs_keep.proofs.Own.{OwnSoFar}
use Rattle.gs_keep.proofs.batch.run_due.Given as goal

abbrev pub invariant-loop-count : goal.invariant-loop-count
invariant-loop-count g l = OwnSoFar g.M.Answering.Answers g.M.Keeping.is_kept g.M.Keeping.is_turned_away g.M.Keeping.own l.count l.fn.machine l.machine l.fn.bytes.items l.bytes.items l.fn.ledger l.ledger
