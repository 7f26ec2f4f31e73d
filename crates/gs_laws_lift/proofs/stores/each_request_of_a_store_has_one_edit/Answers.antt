use Rattle.gs_laws_lift.proofs.lemmas.stores.AskingRuns.{ask_on, asked_first, asked_over, named_stays, of_one_edit, pushes_right}
use Rattle.gs_laws_lift.proofs.stores.each_request_of_a_store_has_one_edit.Goals as goal

pub returns-clause-begins : goal.returns-clause-begins
returns-clause-begins g c seen failures armed config clients disks begun none begins = asked_first seen failures armed config clients disks begun none begins

pub returns-clause-goes_on : goal.returns-clause-goes_on
returns-clause-goes_on g c seen failures armed = ask_on seen failures armed

pub returns-clause-runs : goal.returns-clause-runs
returns-clause-runs g c seen failures armed = asked_over seen failures armed

pub returns-clause-stays : goal.returns-clause-stays
returns-clause-stays g c = named_stays

pub returns-clause-one : goal.returns-clause-one
returns-clause-one g c asked h are = of_one_edit asked h are

pub returns-clause-pushed : goal.returns-clause-pushed
returns-clause-pushed g c asked h are = pushes_right asked h are
