use Rattle.gs_cluster_channel.proofs.Moves.{one_ear}
use Rattle.gs_cluster_channel.proofs.steps.learn_two_ears.Goals as goal

pub learn_as-requires-clause-rule : goal.learn_as-requires-clause-rule
learn_as-requires-clause-rule c = one_ear _ _ c.requires.two
