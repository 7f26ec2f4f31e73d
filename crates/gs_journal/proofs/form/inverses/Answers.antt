use Rattle.std.proofs.Common.{sym, ◌∙◌, rules}
use Rattle.gs_journal.proofs.Times.{times_goes_on, times_stops}
use Rattle.gs_journal.proofs.form.inverses.Goals as goal

pub loop-preserved : goal.loop-preserved
loop-preserved c = times_goes_on _ _ _ _ _ c.loop-test.true c.in_ok-rest.ensures ∙ c.loop.invariant

pub returns-in_err-rest : goal.returns-in_err-rest
returns-in_err-rest c = let stopped = sym c.loop.invariant ∙ times_stops _ _ _ _ c.loop-test.true c.in_err-rest.ensures in search rules
