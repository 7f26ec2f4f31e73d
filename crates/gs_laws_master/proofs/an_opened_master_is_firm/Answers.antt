use Rattle.gs_laws_master.proofs.lemmas.restarts.Reached.{opens_so, recovers_firm}
use Rattle.gs_laws_master.proofs.an_opened_master_is_firm.Goals as goal

pub returns : goal.returns
returns c = record { opened = opens_so; recovered = recovers_firm }
