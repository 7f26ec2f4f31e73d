use Rattle.gs_laws_lift.proofs.lemmas.stores.TellingAll.{ask_on_all, asked_over_all, stores_tell_first_all, stores_tell_on_all, stores_tell_run_all}
use Rattle.gs_laws_lift.proofs.stores.what_clients_are_told_goes_along_whatever_disks_fail.Goals as goal

pub returns-clause-asks : goal.returns-clause-asks
returns-clause-asks g c seen failures armed = ask_on_all seen failures armed

pub returns-clause-over : goal.returns-clause-over
returns-clause-over g c seen failures armed = asked_over_all seen failures armed

pub returns-clause-begins : goal.returns-clause-begins
returns-clause-begins g c seen failures armed config bytes among asked = stores_tell_first_all seen failures armed config bytes among asked c.configurations_have_sizes.ensures

pub returns-clause-step : goal.returns-clause-step
returns-clause-step g c seen failures armed config bytes among asked = stores_tell_on_all seen failures armed config bytes among asked

pub returns-clause-runs : goal.returns-clause-runs
returns-clause-runs g c seen failures armed config bytes among asked = stores_tell_run_all seen failures armed config bytes among asked
