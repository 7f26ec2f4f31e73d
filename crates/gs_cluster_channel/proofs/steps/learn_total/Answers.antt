use Rattle.gs_cluster_channel.proofs.Moves.{learns}
use Rattle.gs_cluster_channel.proofs.steps.learn_total.Goals as goal

pub learn_as-requires-clause-rule : goal.learn_as-requires-clause-rule
learn_as-requires-clause-rule c = learns _ _ c.requires.all
