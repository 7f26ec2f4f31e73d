use Rattle.gs_laws_master.proofs.lemmas.upgrades.RolledBack.{rolls_back}
use Rattle.gs_laws_master.proofs.a_rollback_leads_back_to_the_prepare.Goals as goal

pub returns : goal.returns
returns c = rolls_back
