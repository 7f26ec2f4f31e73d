use Rattle.gs_cluster_channel.proofs.Moves.{takes}
use Rattle.gs_cluster_channel.proofs.steps.try_take.Goals as goal

pub try_recv_as-requires-clause-rule : goal.try_recv_as-requires-clause-rule
try_recv_as-requires-clause-rule g c = (takes _ _, λ items views b at. tt)
