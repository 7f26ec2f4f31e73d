use Rattle.std.proofs.Common.{◌≡◌, ◌+◌, IfSome}
use Rattle.gs_keep.specs.Replaying.{ReplaysSoFar}
use Rattle.gs_keep.proofs.again.replay.Given as goal

abbrev pub invariant-loop-number : goal.invariant-loop-number
invariant-loop-number g l = record {
  sum : l.lines + l.marks ≡ l.number;
  so_far : IfSome (g.B.Read.remaining l.fn.logged.reader) (λ xs. ReplaysSoFar g.M.Answering.Answers g.M.Keeping.is_kept l.fn.machine xs (g.B.Read.remaining l.logged.reader)
      l.number l.lines l.is_open l.fn.ledger l.ledger l.machine);
}
