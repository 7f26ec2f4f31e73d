use Rattle.gs_laws_chunks.proofs.lemmas.calls.Ended.{ends_called}
use Rattle.gs_laws_chunks.proofs.lemmas.calls.Runs.{calls_wait, records_for, turns_for}
use Rattle.gs_laws_chunks.proofs.calls.each_step_is_for_its_calls.Goals as goal

pub returns-clause-waits : goal.returns-clause-waits
returns-clause-waits g c seen failures armed = calls_wait seen failures armed c.configurations_have_sizes.ensures

pub returns-clause-turns : goal.returns-clause-turns
returns-clause-turns g c seen failures armed = turns_for seen failures armed c.configurations_have_sizes.ensures

pub returns-clause-records : goal.returns-clause-records
returns-clause-records g c seen failures armed = records_for seen failures armed c.configurations_have_sizes.ensures

pub returns-clause-ends : goal.returns-clause-ends
returns-clause-ends g c seen failures armed = ends_called seen failures armed c.configurations_have_sizes.ensures
