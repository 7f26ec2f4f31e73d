use Rattle.gs_laws_world.proofs.lemmas.lasting.Alike.{opened_alike}
use Rattle.gs_laws_world.proofs.lasting.disks_of_the_same_bytes_are_opened_alike.Goals as goal

pub returns : goal.returns
returns g c = opened_alike
