use Rattle.gs_laws_chunks.proofs.lemmas.desks.Failing.{desk_ends_steady, run_quiet}
use Rattle.gs_laws_chunks.proofs.desks.a_script_whose_disks_have_not_failed_ends_steady.Goals as goal

pub returns-clause-quiet : goal.returns-clause-quiet
returns-clause-quiet g c seen failures steps old new runs same = run_quiet seen failures steps old new runs same

pub returns-clause-ended : goal.returns-clause-ended
returns-clause-ended g c seen failures config disks desk r none same = desk_ends_steady seen failures config disks desk r none same
