use Rattle.crossbeam_channel.specs.Claims.{view}
use Rattle.gs_cluster_channel.proofs.Moves.{forks}
use Rattle.gs_cluster_channel.proofs.steps.cut_part.Goals as goal

pub another-requires-clause-rule : goal.another-requires-clause-rule
another-requires-clause-rule c = forks _ (view c.args.pass.now) c.requires.more
