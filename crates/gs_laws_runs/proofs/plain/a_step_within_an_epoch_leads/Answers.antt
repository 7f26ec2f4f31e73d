use Rattle.gs_laws_runs.proofs.lemmas.plain.Ending.{growing_lead}
use Rattle.gs_laws_runs.proofs.plain.a_step_within_an_epoch_leads.Goals as goal

pub returns : goal.returns
returns c = growing_lead
