use Rattle.gs_server.proofs.Reached.{never_again}
use Rattle.gs_server.proofs.promises.a_spent_lease_is_never_held_again.Goals as goal

pub returns : goal.returns
returns c = λ handle stamp events s l r spent held. never_again handle stamp events s l r spent held
