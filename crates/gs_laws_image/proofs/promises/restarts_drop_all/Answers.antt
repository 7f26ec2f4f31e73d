use Rattle.gs_laws_image.proofs.Restarting.{restarts_drop}
use Rattle.gs_laws_image.proofs.promises.restarts_drop_all.Goals as goal

pub returns : goal.returns
returns g c = restarts_drop
