use Rattle.gs_laws_chunks.proofs.lemmas.calls.Runs.{disks_told, kept_told, replies_told, told_since}
use Rattle.gs_laws_chunks.proofs.lemmas.calls.Stood.{told_stood}
use Rattle.gs_laws_chunks.proofs.calls.each_location_is_of_the_place_that_its_client_asked.Goals as goal

pub returns-clause-replies : goal.returns-clause-replies
returns-clause-replies g c seen failures armed = replies_told seen failures armed c.configurations_have_sizes.ensures

pub returns-clause-kept : goal.returns-clause-kept
returns-clause-kept g c seen failures armed = kept_told seen failures armed c.configurations_have_sizes.ensures

pub returns-clause-disks : goal.returns-clause-disks
returns-clause-disks g c seen failures armed = disks_told seen failures armed c.configurations_have_sizes.ensures

pub returns-clause-stood : goal.returns-clause-stood
returns-clause-stood g c = told_stood

pub returns-clause-since : goal.returns-clause-since
returns-clause-since g c seen failures armed = told_since seen failures armed c.configurations_have_sizes.ensures
