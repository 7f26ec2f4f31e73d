use Rattle.gs_laws_master.proofs.lemmas.standing.StandingRuns.{events_fit}
use Rattle.gs_laws_master.proofs.each_event_fits.Goals as goal

pub returns : goal.returns
returns c = events_fit
