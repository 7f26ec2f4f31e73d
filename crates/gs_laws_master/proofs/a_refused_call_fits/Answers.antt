use Rattle.gs_laws_master.proofs.lemmas.refusals.Refusing.{refused_fits}
use Rattle.gs_laws_master.proofs.a_refused_call_fits.Goals as goal

pub returns : goal.returns
returns c = refused_fits
