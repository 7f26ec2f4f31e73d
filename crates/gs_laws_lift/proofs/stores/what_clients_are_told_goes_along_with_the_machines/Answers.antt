use Rattle.gs_laws_lift.proofs.lemmas.stores.Passing.{passed_has_none}
use Rattle.gs_laws_lift.proofs.lemmas.stores.Telling.{stores_tell_first, stores_tell_on, stores_tell_run, tells_first}
use Rattle.gs_laws_lift.proofs.stores.what_clients_are_told_goes_along_with_the_machines.Goals as goal

pub returns-clause-begins : goal.returns-clause-begins
returns-clause-begins g c seen failures armed config bytes among asked = stores_tell_first seen failures armed config bytes among asked c.configurations_have_sizes.ensures

pub returns-clause-step : goal.returns-clause-step
returns-clause-step g c seen failures armed config bytes among asked = stores_tell_on seen failures armed config bytes among asked

pub returns-clause-runs : goal.returns-clause-runs
returns-clause-runs g c seen failures armed config bytes among asked = stores_tell_run seen failures armed config bytes among asked

pub returns-clause-first : goal.returns-clause-first
returns-clause-first g c seen config bytes among asked = tells_first seen config bytes asked among

pub returns-clause-passed : goal.returns-clause-passed
returns-clause-passed g c seen config bytes asked = passed_has_none seen config bytes asked
