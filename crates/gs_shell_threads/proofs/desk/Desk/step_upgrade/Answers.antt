use Rattle.gs_client.specs.Sends.{Sends}
use Rattle.gs_cluster.specs.Linked.{carried}
use Rattle.gs_shell_threads.proofs.Turns.{commits}
use Rattle.gs_shell_threads.proofs.desk.Desk.step_upgrade.Goals as goal

pub returns-in-PrepareCommit : goal.returns-in-PrepareCommit
returns-in-PrepareCommit g c = commits (Sends (carried g.D.Disk.seen g.D.Disk.failures)) c.args.step _ _ _ c.in-PrepareCommit.is c.ask_until.ensures
