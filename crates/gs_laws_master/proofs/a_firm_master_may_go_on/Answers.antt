use Rattle.gs_laws_master.proofs.lemmas.standing.StandingRuns.{firm_goes_on}
use Rattle.gs_laws_master.proofs.a_firm_master_may_go_on.Goals as goal

pub returns : goal.returns
returns c = firm_goes_on
