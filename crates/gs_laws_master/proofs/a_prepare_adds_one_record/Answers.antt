use Rattle.gs_laws_master.proofs.lemmas.upgrades.Preparing.{prepares_by_one_record}
use Rattle.gs_laws_master.proofs.a_prepare_adds_one_record.Goals as goal

pub returns : goal.returns
returns c = prepares_by_one_record
