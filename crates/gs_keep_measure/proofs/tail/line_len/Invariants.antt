use Rattle.std.proofs.Common.{◌≡◌, ◌+◌, length}
use Rattle.gs_keep_measure.specs.Tail.{line_len}
use Rattle.gs_keep_measure.proofs.tail.line_len.Given as goal

abbrev pub invariant-loop-first : goal.invariant-loop-first
invariant-loop-first l = (line_len l.bytes ≡ l.count + line_len l.rest) × (l.count + length l.rest ≡ length l.bytes)

abbrev pub decreases-loop-first : goal.decreases-loop-first
decreases-loop-first l = length l.rest
