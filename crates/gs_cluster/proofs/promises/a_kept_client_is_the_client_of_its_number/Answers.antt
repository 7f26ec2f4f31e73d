use Rattle.gs_cluster.proofs.Clients.{own_client}
use Rattle.gs_cluster.proofs.promises.a_kept_client_is_the_client_of_its_number.Goals as goal

pub returns : goal.returns
returns g c = own_client g.D.Disk.seen g.D.Disk.failures
