use Rattle.gs_laws_chunk.proofs.lemmas.members.Kept.{members_are_there}
use Rattle.gs_laws_chunk.proofs.members.members_keep_their_replicas.Goals as goal

pub returns : goal.returns
returns c = members_are_there
