use Rattle.gs_laws_lift.proofs.lemmas.stores.Placing.{kind_of}
use Rattle.gs_laws_lift.proofs.stores.each_step_is_at_one_node.Goals as goal

pub returns : goal.returns
returns g c = λ seen failures armed step old new goes named. kind_of seen failures armed step old new goes named
