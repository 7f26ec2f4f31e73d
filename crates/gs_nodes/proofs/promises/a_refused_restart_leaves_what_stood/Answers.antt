use Rattle.gs_nodes.proofs.Surviving.{refusals_leave}
use Rattle.gs_nodes.proofs.promises.a_refused_restart_leaves_what_stood.Goals as goal

pub returns : goal.returns
returns g c = let d = g.D.Disk in refusals_leave d.seen d.may_leave d.moment d.left_since
