use Rattle.gs_laws_master.proofs.lemmas.standing.StandingRuns.{runs_fit, runs_recover}
use Rattle.gs_laws_master.proofs.every_run_fits.Goals as goal

pub returns : goal.returns
returns c = record { fit = runs_fit; again = runs_recover }
