use Rattle.gs_laws_chunks.proofs.lemmas.accounts.Begun.{each_is_of_a_prepare}
use Rattle.gs_laws_chunks.proofs.accounts.each_rollback_is_of_a_prepare.Goals as goal

pub returns : goal.returns
returns g c = each_is_of_a_prepare
