use Rattle.gs_server.proofs.Keeping.{leaves, refused_copy}
use Rattle.gs_server.proofs.promises.a_refused_message_leaves_the_chunk.Goals as goal

pub returns-clause-chunk : goal.returns-clause-chunk
returns-clause-chunk c = λ h p from chunk. leaves h p from chunk

pub returns-clause-copy : goal.returns-clause-copy
returns-clause-copy c = λ h source at new target stamp. refused_copy h source at new target stamp
