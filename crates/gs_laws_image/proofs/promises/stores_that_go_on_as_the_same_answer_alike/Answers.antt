use Rattle.gs_laws_image.proofs.Going.{go_on_alike}
use Rattle.gs_laws_image.proofs.promises.stores_that_go_on_as_the_same_answer_alike.Goals as goal

pub returns : goal.returns
returns g c = go_on_alike
