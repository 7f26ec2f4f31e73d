use Rattle.gs_world.proofs.Sending.{run_stays}
use Rattle.gs_world.proofs.Staying.{run_same}
use Rattle.gs_world.proofs.promises.what_was_sent_stays.Goals as goal

pub returns-clause-sent : goal.returns-clause-sent
returns-clause-sent g c seen failures armed steps old new runs = run_stays seen failures armed steps old new runs

pub returns-clause-nodes : goal.returns-clause-nodes
returns-clause-nodes g c seen failures armed steps old new runs = run_same seen failures armed steps old new runs
