use Rattle.gs_laws_image.proofs.Going.{images_go_on_alike}
use Rattle.gs_laws_image.proofs.Resting.{closed_rests}
use Rattle.gs_laws_image.proofs.Stored.{read_alike}
use Rattle.gs_laws_image.proofs.promises.a_store_goes_on_from_its_image.Goals as goal

pub returns-clause-rests : goal.returns-clause-rests
returns-clause-rests g c seen failures config d c2 w on closes resting = closed_rests seen failures config d c2 w on closes resting

pub returns-clause-read : goal.returns-clause-read
returns-clause-read g c = read_alike

pub returns-clause-goes_on : goal.returns-clause-goes_on
returns-clause-goes_on g c config line lines texts others d new e other w on r is restarts runs well other_runs other_well =
    let a = read_alike config d e w on r is in
    images_go_on_alike config line lines texts others d new r.closed e other w on r.closes a.0 a.1 restarts runs well other_runs other_well
