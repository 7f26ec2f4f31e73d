use Rattle.gs_laws_lift.proofs.lemmas.stores.Arming.{lasts_armed, shows_armed, unknown_armed}
use Rattle.gs_laws_lift.proofs.stores.a_failure_to_come_changes_nothing_that_is_shown.Goals as goal

pub returns-clause-shown : goal.returns-clause-shown
returns-clause-shown g c seen = shows_armed seen

pub returns-clause-firm : goal.returns-clause-firm
returns-clause-firm g c seen = lasts_armed seen

pub returns-clause-unknown : goal.returns-clause-unknown
returns-clause-unknown g c seen = unknown_armed seen
