use Rattle.gs_tree.proofs.Apart.{sides_apart, sides_stay}
use Rattle.gs_tree.proofs.promises.snapshots_stay_apart.Goals as goal

pub returns-clause-apart : goal.returns-clause-apart
returns-clause-apart c is_deep m n from to closed is = sides_apart is_deep m n from to closed is

pub returns-clause-stay : goal.returns-clause-stay
returns-clause-stay c command m n one other q f g all is k = sides_stay command m n one other q f g all is k
