use Rattle.gs_keep_moments.proofs.Going.{fails_below, neither}
use Rattle.gs_keep_moments.proofs.stopping.StoppingLogLog.cut.Goals as goal

pub cut-requires-clause-goes_on : goal.cut-requires-clause-goes_on
cut-requires-clause-goes_on g c = (neither c.args.self.now.has_stopped (g.L.Log.has_failed c.args.self.now.log) c.requires.goes_on).1

pub returns-clause-failed : goal.returns-clause-failed
returns-clause-failed g c =
    fails_below c.args.self.now.has_stopped (g.L.Log.has_failed c.cut.new.self) _ (neither c.args.self.now.has_stopped (g.L.Log.has_failed c.args.self.now.log) c.requires.goes_on).0 c.cut.ensures.failed
