use Rattle.gs_laws_master.proofs.lemmas.keeping.KeptAll.{told_again}
use Rattle.gs_laws_master.proofs.lemmas.telling.ToldAgain.{tells_all}
use Rattle.gs_laws_master.proofs.a_checkpoint_tells_what_stands.Goals as goal

pub returns : goal.returns
returns c = record { stands = tells_all; again = told_again }
