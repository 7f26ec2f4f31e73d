use Rattle.gs_laws_looks.proofs.lemmas.carrying.Asked.{requests_are_carried}
use Rattle.gs_laws_looks.proofs.carrying.each_request_that_is_carried_has_its_reply.Goals as goal

pub returns : goal.returns
returns g c = requests_are_carried
