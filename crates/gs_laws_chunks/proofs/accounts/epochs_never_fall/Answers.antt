use Rattle.gs_laws_chunks.proofs.lemmas.accounts.Rising.{epochs_rise}
use Rattle.gs_laws_chunks.proofs.accounts.epochs_never_fall.Goals as goal

pub returns : goal.returns
returns g c = epochs_rise
