use Rattle.gs_laws_master.proofs.lemmas.fitting.AcceptedMessages.{checkpoint_fits}
use Rattle.gs_laws_master.proofs.a_checkpoint_fits.Goals as goal

pub returns : goal.returns
returns c = checkpoint_fits
