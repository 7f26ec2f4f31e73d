use Rattle.gs_keep_moments.proofs.Going.{fails_below, neither}
use Rattle.gs_keep_moments.proofs.stopping.StoppingLogLog.sync.Goals as goal

pub sync-requires : goal.sync-requires
sync-requires g c = (neither c.args.self.now.has_stopped (g.L.Log.has_failed c.args.self.now.log) c.requires).1

pub returns-then-takes_call-clause-failed : goal.returns-then-takes_call-clause-failed
returns-then-takes_call-clause-failed g c =
    fails_below c.args.self.now.has_stopped (g.L.Log.has_failed c.sync.new.self) _ (neither c.args.self.now.has_stopped (g.L.Log.has_failed c.args.self.now.log) c.requires).0 c.sync.ensures.failed
