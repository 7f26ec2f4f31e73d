use Rattle.gs_laws_lift.proofs.lemmas.stores.DoingAll.{masters_do_all}
use Rattle.gs_laws_lift.proofs.lemmas.stores.SteppingAll.{arms_all, each_lives_all, stores_go_all, stores_run_all}
use Rattle.gs_laws_lift.proofs.stores.all_chunks_live_whatever_disks_fail.Goals as goal

pub returns-clause-does : goal.returns-clause-does
returns-clause-does g c seen failures armed = masters_do_all seen failures armed

pub returns-clause-step : goal.returns-clause-step
returns-clause-step g c seen failures armed config bytes among = stores_go_all seen failures armed config bytes among

pub returns-clause-onward : goal.returns-clause-onward
returns-clause-onward g c seen failures armed config bytes among = stores_run_all seen failures armed config bytes among

pub returns-clause-arms : goal.returns-clause-arms
returns-clause-arms g c seen = arms_all seen

pub returns-clause-reached : goal.returns-clause-reached
returns-clause-reached g c seen failures armed config bytes among = each_lives_all seen failures armed config bytes among c.configurations_have_sizes.ensures
