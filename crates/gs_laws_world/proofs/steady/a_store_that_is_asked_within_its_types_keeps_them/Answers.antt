use Rattle.gs_laws_world.proofs.lemmas.steady.Keeping.{begins_keeping, run_keeps, runs_steadily}
use Rattle.gs_laws_world.proofs.steady.a_store_that_is_asked_within_its_types_keeps_them.Goals as goal

pub returns-clause-begun : goal.returns-clause-begun
returns-clause-begun g c seen failures armed config clients disks new few begins = begins_keeping seen failures armed config clients disks new few begins

pub returns-clause-kept : goal.returns-clause-kept
returns-clause-kept g c seen failures armed steps old new runs within keeps = run_keeps seen failures armed steps old new runs within keeps

pub returns-clause-heard : goal.returns-clause-heard
returns-clause-heard g c seen failures armed steps old new runs within keeps = runs_steadily seen failures armed steps old new runs within keeps
