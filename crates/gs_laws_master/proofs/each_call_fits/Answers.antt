use Rattle.gs_laws_master.proofs.lemmas.fitting.AcceptedCalls.{calls_fit, calls_keep}
use Rattle.gs_laws_master.proofs.each_call_fits.Goals as goal

pub returns : goal.returns
returns c = record { fit = calls_fit; kept = calls_keep }
