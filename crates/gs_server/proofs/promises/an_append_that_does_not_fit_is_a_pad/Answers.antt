use Rattle.gs_server.proofs.Telling.{appends_pad, pads_sent}
use Rattle.gs_server.proofs.promises.an_append_that_does_not_fit_is_a_pad.Goals as goal

pub returns-clause-slot : goal.returns-clause-slot
returns-clause-slot c = λ h p req stamp many live s lives out is. appends_pad h p req stamp many live s lives out is

pub returns-clause-sent : goal.returns-clause-sent
returns-clause-sent c = λ h p req stamp many live l s lives leased out is. pads_sent h p req stamp many live l s lives leased out is
