use Rattle.gs_cluster_channel.proofs.Moves.{begins}
use Rattle.gs_cluster_channel.proofs.line.Line.open.Goals as goal

pub bounded_with-requires-clause-rule : goal.bounded_with-requires-clause-rule
bounded_with-requires-clause-rule c = begins
