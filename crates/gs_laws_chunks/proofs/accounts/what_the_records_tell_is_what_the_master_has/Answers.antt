use Rattle.gs_laws_chunks.proofs.lemmas.accounts.Durables.{told_is_had}
use Rattle.gs_laws_chunks.proofs.accounts.what_the_records_tell_is_what_the_master_has.Goals as goal

pub returns : goal.returns
returns c s = told_is_had
