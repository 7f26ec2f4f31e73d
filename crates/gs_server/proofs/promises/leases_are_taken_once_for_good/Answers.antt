use Rattle.gs_server.proofs.Behind.{taken_once}
use Rattle.gs_server.proofs.promises.leases_are_taken_once_for_good.Goals as goal

pub returns : goal.returns
returns c = λ handle stamp first again events s takes retakes. taken_once handle stamp first again events s takes retakes
