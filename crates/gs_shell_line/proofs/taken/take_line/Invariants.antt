use Rattle.std.proofs.Common.{◌≡◌, ◌≢◌, ◌-◌, List, ℕ, All}
use Rattle.std.specs.Io.KnownBytes.{Consumes}
use Rattle.gs_shell_line.specs.Line.{Holds}
use Rattle.gs_shell_line.proofs.taken.take_line.Given as goal

abbrev pub invariant-loop-reads : goal.invariant-loop-reads
invariant-loop-reads g l = (l.reads.has_failed ≡ l.initial.reads.has_failed) × ((done : List ℕ) × All (λ x. x ≢ 10) done
    × Consumes (g.B.Read.remaining l.initial.reader) (g.B.Read.remaining l.reader) done × Holds l.taken done)

abbrev pub decreases-loop-reads : goal.decreases-loop-reads
decreases-loop-reads g l = 18446744073709551615 - l.reads.count
