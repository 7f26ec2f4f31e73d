use Rattle.gs_laws_chunk.proofs.lemmas.machine.Worked.{a_run_back}
use Rattle.gs_laws_chunk.proofs.lemmas.machine.Carried.{a_carried_run_back}
use Rattle.gs_laws_chunk.proofs.machine.worked_runs_are_runs_of_the_machine.Goals as goal

pub returns-clause-written : goal.returns-clause-written
returns-clause-written c = a_run_back

pub returns-clause-carried : goal.returns-clause-carried
returns-clause-carried c = a_carried_run_back
