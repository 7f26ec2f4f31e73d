use Rattle.gs_lock.proofs.Ways.{way_conflicts}
use Rattle.gs_lock.proofs.promises.what_is_in_the_way_conflicts.Goals as goal

pub returns : goal.returns
returns c = way_conflicts
