use Rattle.gs_laws_chunks.proofs.lemmas.accounts.Intact.{stores_stay_intact}
use Rattle.gs_laws_chunks.proofs.accounts.accounts_tell_who_is_intact.Goals as goal

pub returns : goal.returns
returns g c = stores_stay_intact
