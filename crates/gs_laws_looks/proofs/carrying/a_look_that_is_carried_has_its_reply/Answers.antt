use Rattle.gs_laws_looks.proofs.lemmas.carrying.Exchanged.{looks_are_carried}
use Rattle.gs_laws_looks.proofs.carrying.a_look_that_is_carried_has_its_reply.Goals as goal

pub returns : goal.returns
returns g c = looks_are_carried
