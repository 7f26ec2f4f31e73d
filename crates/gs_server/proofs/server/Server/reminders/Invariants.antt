use Rattle.std.proofs.Common.{◌≡◌, ◌++◌}
use Rattle.std.specs.FinMap as fin
use Rattle.gs_server.specs.Servers.{reminds_all}
use Rattle.gs_server.proofs.server.Server.reminders.Given as goal

abbrev pub invariant-loop-handle : goal.invariant-loop-handle
invariant-loop-handle l = l.sent.items ++ reminds_all l.self.me l.moment l.handle-iterator ≡ reminds_all l.self.me l.moment (fin.entries l.self.dropped.leases)
