use Rattle.gs_laws_server.proofs.lemmas.refusals.Telling.{quiet_ticks, tells_refusals}
use Rattle.gs_laws_server.proofs.refusals.refusals_are_told_where_edits_are_refused.Goals as goal

pub returns-clause-heard : goal.returns-clause-heard
returns-clause-heard c = tells_refusals

pub returns-clause-ticked : goal.returns-clause-ticked
returns-clause-ticked c = quiet_ticks
