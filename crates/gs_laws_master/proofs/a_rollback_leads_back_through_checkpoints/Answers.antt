use Rattle.gs_laws_master.proofs.lemmas.upgrades.RolledBack.{rolls_back_through}
use Rattle.gs_laws_master.proofs.a_rollback_leads_back_through_checkpoints.Goals as goal

pub returns : goal.returns
returns c = rolls_back_through
