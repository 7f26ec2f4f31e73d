use Rattle.gs_laws_lift.proofs.lemmas.stores.Running.{each_lives, stores_run}
use Rattle.gs_laws_lift.proofs.stores.all_chunks_live_over_each_run.Goals as goal

pub returns-clause-reached : goal.returns-clause-reached
returns-clause-reached g c seen failures armed config bytes among = each_lives seen failures armed config bytes among c.configurations_have_sizes.ensures

pub returns-clause-onward : goal.returns-clause-onward
returns-clause-onward g c seen failures armed config bytes among = stores_run seen failures armed config bytes among
