use Rattle.gs_laws_master.proofs.lemmas.standing.StandingRuns.{starts_firm}
use Rattle.gs_laws_master.proofs.a_new_store_is_firm.Goals as goal

pub returns : goal.returns
returns c = starts_firm
