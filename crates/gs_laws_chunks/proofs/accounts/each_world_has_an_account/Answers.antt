use Rattle.gs_laws_chunks.proofs.lemmas.accounts.Reaching.{each_world_has_an_account}
use Rattle.gs_laws_chunks.proofs.accounts.each_world_has_an_account.Goals as goal

pub returns : goal.returns
returns g c = each_world_has_an_account _
