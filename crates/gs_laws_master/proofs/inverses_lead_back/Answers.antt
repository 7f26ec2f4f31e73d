use Rattle.gs_laws_master.proofs.lemmas.upgrades.LedBack.{leads_back}
use Rattle.gs_laws_master.proofs.inverses_lead_back.Goals as goal

pub returns : goal.returns
returns c = leads_back
