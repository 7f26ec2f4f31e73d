use Rattle.gs_laws_looks.proofs.lemmas.carrying.Carried.{calls_are_carried}
use Rattle.gs_laws_looks.proofs.carrying.a_call_that_is_carried_has_its_answer.Goals as goal

pub returns : goal.returns
returns g c = calls_are_carried
