use Rattle.std.proofs.Common.{IfSome}
use Rattle.gs_shell_script.specs.Run.{Wrote}
use Rattle.gs_shell_script.proofs.run.Given as goal

abbrev pub invariant-loop : goal.invariant-loop
invariant-loop g l = IfSome (g.R.Read.remaining l.initial.reader) (λ input.
    Wrote g.M.Answering.Answers l.initial.machine input (g.R.Read.remaining l.reader) (g.W.Write.contents l.initial.writer) (g.W.Write.contents l.writer) l.machine)
