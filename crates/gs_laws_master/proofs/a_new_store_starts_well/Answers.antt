use Rattle.gs_laws_master.proofs.lemmas.restarts.Starting.{starts_well}
use Rattle.gs_laws_master.proofs.a_new_store_starts_well.Goals as goal

pub returns : goal.returns
returns c = starts_well
