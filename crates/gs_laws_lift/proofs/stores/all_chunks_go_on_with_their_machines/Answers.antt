use Rattle.gs_laws_lift.proofs.lemmas.stores.Running.{stores_begin}
use Rattle.gs_laws_lift.proofs.lemmas.stores.Stepping.{stores_go_on}
use Rattle.gs_laws_lift.proofs.stores.all_chunks_go_on_with_their_machines.Goals as goal

pub returns-clause-begins : goal.returns-clause-begins
returns-clause-begins g c seen failures armed config bytes among = stores_begin seen failures armed config bytes among c.configurations_have_sizes.ensures

pub returns-clause-step : goal.returns-clause-step
returns-clause-step g c seen failures armed config bytes among = stores_go_on seen failures armed config bytes among
