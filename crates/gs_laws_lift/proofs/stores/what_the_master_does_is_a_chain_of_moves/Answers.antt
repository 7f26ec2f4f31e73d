use Rattle.gs_laws_lift.proofs.lemmas.stores.Doing.{masters_do}
use Rattle.gs_laws_lift.proofs.stores.what_the_master_does_is_a_chain_of_moves.Goals as goal

pub returns : goal.returns
returns g c = λ seen failures armed. masters_do seen failures armed
