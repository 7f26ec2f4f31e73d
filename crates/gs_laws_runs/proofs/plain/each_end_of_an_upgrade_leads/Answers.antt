use Rattle.gs_laws_runs.proofs.lemmas.plain.Ending.{commits_lead, finalizes_lead, prepares_lead}
use Rattle.gs_laws_runs.proofs.plain.each_end_of_an_upgrade_leads.Goals as goal

pub returns-clause-prepares : goal.returns-clause-prepares
returns-clause-prepares c = prepares_lead

pub returns-clause-finalizes : goal.returns-clause-finalizes
returns-clause-finalizes c = finalizes_lead

pub returns-clause-commits : goal.returns-clause-commits
returns-clause-commits c = commits_lead
