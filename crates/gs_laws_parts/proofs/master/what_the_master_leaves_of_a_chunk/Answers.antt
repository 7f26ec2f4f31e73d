use Rattle.gs_laws_parts.proofs.lemmas.master.Leading.{masters_leave}
use Rattle.gs_laws_parts.proofs.master.what_the_master_leaves_of_a_chunk.Goals as goal

pub returns : goal.returns
returns c = masters_leave
