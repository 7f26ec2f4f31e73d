use Rattle.gs_laws_master.proofs.lemmas.keeping.Kept.{tells_counters}
use Rattle.gs_laws_master.proofs.a_checkpoint_tells_the_counters.Goals as goal

pub returns : goal.returns
returns c = tells_counters
