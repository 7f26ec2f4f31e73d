use Rattle.gs_cluster.proofs.Hearing.{Waiting}
use Rattle.gs_cluster.proofs.caller.Caller.wait.Given as goal

abbrev pub invariant-loop : goal.invariant-loop
invariant-loop g l = Waiting g.D.Disk.seen g.D.Disk.failures l.initial.node l.node l.fn.self.patience.vain l.patience
