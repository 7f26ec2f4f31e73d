use Rattle.std.proofs.Common.{◌∙◌}
use Rattle.gs_journal.proofs.Times.{times_goes_on}
use Rattle.gs_journal.proofs.form.list.Goals as goal

pub loop-preserved : goal.loop-preserved
loop-preserved c = times_goes_on _ _ _ _ _ c.loop-test.true c.in_ok-rest.ensures ∙ c.loop.invariant
