use Rattle.gs_cluster.proofs.Answered.{answered_by}
use Rattle.gs_cluster.proofs.promises.a_reply_is_from_what_the_history_took.Goals as goal

pub returns : goal.returns
returns g c = answered_by g.D.Disk.seen g.D.Disk.failures
