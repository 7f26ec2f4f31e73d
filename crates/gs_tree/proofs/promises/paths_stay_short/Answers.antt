use Rattle.gs_tree.proofs.Short.{stay_short}
use Rattle.gs_tree.proofs.promises.paths_stay_short.Goals as goal

pub returns : goal.returns
returns c command m n test short within is = stay_short command m n test short within is
