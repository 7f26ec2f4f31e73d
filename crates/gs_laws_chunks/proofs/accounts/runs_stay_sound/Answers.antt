use Rattle.gs_laws_chunks.proofs.lemmas.accounts.Told.{reached_sound}
use Rattle.gs_laws_chunks.proofs.accounts.runs_stay_sound.Goals as goal

pub returns : goal.returns
returns c s = reached_sound
