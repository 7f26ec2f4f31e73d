use Rattle.std.proofs.Common.{◌≡◌, ◌++◌, length}
use Rattle.gs_journal.specs.Records.{records_behind, records_of}
use Rattle.gs_journal.proofs.frame.records_in.Given as goal

abbrev pub invariant-loop-found : goal.invariant-loop-found
invariant-loop-found l = l.records.items ++ records_behind 0 l.rest ≡ records_of l.bytes

abbrev pub decreases-loop-found : goal.decreases-loop-found
decreases-loop-found l = length l.rest
