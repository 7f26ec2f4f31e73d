use Rattle.gs_cluster_channel.proofs.Moves.{puts}
use Rattle.gs_cluster_channel.proofs.steps.try_put.Goals as goal

pub try_send_as-requires-clause-rule : goal.try_send_as-requires-clause-rule
try_send_as-requires-clause-rule g c = (puts _ _ _ _ c.requires.part, λ items views b at. tt)
