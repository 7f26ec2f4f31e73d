use Rattle.gs_laws_chunks.proofs.lemmas.accounts.Telling.{members_have_named, none_unnamed}
use Rattle.gs_laws_chunks.proofs.accounts.no_rollback_is_done_unnamed.Goals as goal

pub returns-clause-named : goal.returns-clause-named
returns-clause-named g c = none_unnamed

pub returns-clause-members : goal.returns-clause-members
returns-clause-members g c = members_have_named
