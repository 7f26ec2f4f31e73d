use Rattle.gs_laws_image.proofs.Going.{closed_go_on, images_go_on, images_go_on_alike}
use Rattle.gs_laws_image.proofs.promises.desks_that_are_alike_go_on_alike.Goals as goal

pub returns-clause-function : goal.returns-clause-function
returns-clause-function c = images_go_on

pub returns-clause-closed : goal.returns-clause-closed
returns-clause-closed c = closed_go_on

pub returns-clause-alike : goal.returns-clause-alike
returns-clause-alike c = images_go_on_alike
