use Rattle.gs_laws_server.proofs.lemmas.servers.Repeating.{dropped_gone}
use Rattle.gs_laws_server.proofs.servers.a_dropped_replica_leaves_no_lease.Goals as goal

pub returns : goal.returns
returns c = λ h p epoch promise said. dropped_gone h p epoch promise said
