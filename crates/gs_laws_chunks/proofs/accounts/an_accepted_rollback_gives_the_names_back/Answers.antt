use Rattle.gs_laws_chunks.proofs.lemmas.accounts.Leading.{gives_names_back}
use Rattle.gs_laws_chunks.proofs.lemmas.accounts.Telling.{gives_names_told}
use Rattle.gs_laws_chunks.proofs.lemmas.accounts.ToldBack.{told_names_back}
use Rattle.gs_laws_chunks.proofs.accounts.an_accepted_rollback_gives_the_names_back.Goals as goal

pub returns-clause-kept : goal.returns-clause-kept
returns-clause-kept g c x = gives_names_back x

pub returns-clause-told : goal.returns-clause-told
returns-clause-told g c x = told_names_back x

pub returns-clause-accounts : goal.returns-clause-accounts
returns-clause-accounts g c x = gives_names_told x
