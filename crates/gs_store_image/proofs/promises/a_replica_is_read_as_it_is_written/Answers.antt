use Rattle.gs_store_image.proofs.Replicas.{reads_replica}
use Rattle.gs_store_image.proofs.promises.a_replica_is_read_as_it_is_written.Goals as goal

pub returns : goal.returns
returns c = reads_replica
