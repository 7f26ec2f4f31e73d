use Rattle.std.proofs.Common.{length}
use Rattle.gs_journal.proofs.Scan.{Scans}
use Rattle.gs_journal.proofs.frame.end_of_records.Given as goal

abbrev pub invariant-loop-found : goal.invariant-loop-found
invariant-loop-found l = Scans l.version l.bytes l.is_first l.end l.rest

abbrev pub decreases-loop-found : goal.decreases-loop-found
decreases-loop-found l = length l.rest
