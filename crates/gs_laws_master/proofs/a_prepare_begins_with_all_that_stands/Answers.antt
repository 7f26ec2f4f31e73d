use Rattle.gs_laws_master.proofs.lemmas.upgrades.Beginnings.{begins_with_all}
use Rattle.gs_laws_master.proofs.a_prepare_begins_with_all_that_stands.Goals as goal

pub returns : goal.returns
returns c = begins_with_all
