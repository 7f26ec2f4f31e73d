use Rattle.gs_cluster_channel.proofs.Moves.{merges}
use Rattle.gs_cluster_channel.proofs.steps.join.Goals as goal

pub absorb-requires-clause-rule : goal.absorb-requires-clause-rule
absorb-requires-clause-rule c = merges _ _ _ _
