use Rattle.gs_laws_runs.proofs.lemmas.plain.Stepping.{steps_of_accounts}
use Rattle.gs_laws_runs.proofs.plain.a_step_leads_from_plain_view_to_plain_view.Goals as goal

pub returns : goal.returns
returns c = steps_of_accounts
