use Rattle.gs_laws_world.proofs.lemmas.lasting.Lasting.{begins_firm, faulty_run_lasts, unarmed_run_lasts}
use Rattle.gs_laws_world.proofs.lasting.a_master_stays_firm_while_no_disk_fails.Goals as goal

pub returns-clause-begun : goal.returns-clause-begun
returns-clause-begun g c seen failures armed config clients disks new none begun = begins_firm seen failures armed config clients disks new none begun

pub returns-clause-kept : goal.returns-clause-kept
returns-clause-kept g c seen failures steps old new runs h = faulty_run_lasts seen failures steps old new runs h

pub returns-clause-unarmed : goal.returns-clause-unarmed
returns-clause-unarmed g c seen failures armed steps old new leaves runs h = unarmed_run_lasts seen failures armed steps old new leaves runs h
