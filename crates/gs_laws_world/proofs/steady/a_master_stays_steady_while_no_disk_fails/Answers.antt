use Rattle.gs_laws_world.proofs.lemmas.steady.Steady.{begins_steady, faulty_run_steady, lasts, unarmed_run_steady}
use Rattle.gs_laws_world.proofs.steady.a_master_stays_steady_while_no_disk_fails.Goals as goal

pub returns-clause-begun : goal.returns-clause-begun
returns-clause-begun g c seen failures armed config clients disks new none begins = begins_steady seen failures armed config clients disks new none begins

pub returns-clause-kept : goal.returns-clause-kept
returns-clause-kept g c seen failures steps old new runs h = faulty_run_steady seen failures steps old new runs h

pub returns-clause-unarmed : goal.returns-clause-unarmed
returns-clause-unarmed g c seen failures armed steps old new leaves runs h = unarmed_run_steady seen failures armed steps old new leaves runs h

pub returns-clause-firm : goal.returns-clause-firm
returns-clause-firm g c seen place h = lasts seen (λ disk. 0) place h
