use Rattle.gs_laws_master.proofs.lemmas.names.Numbered.{leads_to_numbers, records_keep_numbers, tells_numbers}
use Rattle.gs_laws_master.proofs.lemmas.standing.StandingRuns.{events_keep_numbers, runs_keep_numbers}
use Rattle.gs_laws_master.proofs.hidden_names_tell_numbers_that_were_given.Goals as goal

pub returns : goal.returns
returns c = record { records = records_keep_numbers; checkpoints = tells_numbers; all = leads_to_numbers; events = events_keep_numbers; runs = runs_keep_numbers }
