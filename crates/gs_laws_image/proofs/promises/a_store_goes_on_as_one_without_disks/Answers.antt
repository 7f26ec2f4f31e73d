use Rattle.gs_laws_image.proofs.Going.{lines_go_on, new_stores_go_on}
use Rattle.gs_laws_image.proofs.promises.a_store_goes_on_as_one_without_disks.Goals as goal

pub returns-clause-begun : goal.returns-clause-begun
returns-clause-begun g c = new_stores_go_on

pub returns-clause-lines : goal.returns-clause-lines
returns-clause-lines g c = lines_go_on
