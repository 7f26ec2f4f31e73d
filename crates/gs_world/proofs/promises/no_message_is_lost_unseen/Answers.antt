use Rattle.gs_world.proofs.Losing.{all_posted, run_lost}
use Rattle.gs_world.proofs.promises.no_message_is_lost_unseen.Goals as goal

pub returns-clause-sent : goal.returns-clause-sent
returns-clause-sent g c moment by messages old new posted none = all_posted moment by messages old new posted none

pub returns-clause-stays : goal.returns-clause-stays
returns-clause-stays g c seen failures armed steps old new runs lost = run_lost seen failures armed steps old new runs lost
