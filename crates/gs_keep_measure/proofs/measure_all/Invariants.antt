use Rattle.std.proofs.Common.{IfSome}
use Rattle.gs_keep_measure.proofs.Steps.{SoFar}
use Rattle.gs_keep_measure.proofs.measure_all.Given as goal

abbrev pub invariant-loop-count : goal.invariant-loop-count
invariant-loop-count g l = IfSome (g.B.Read.remaining l.fn.reader.reader) (λ xs. SoFar xs (g.B.Read.remaining l.reader.reader) l.count l.now)
