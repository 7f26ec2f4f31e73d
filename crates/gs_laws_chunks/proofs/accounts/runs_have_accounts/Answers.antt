use Rattle.gs_laws_chunks.proofs.lemmas.accounts.Once.{first_is_one, next_is_one}
use Rattle.gs_laws_chunks.proofs.lemmas.accounts.Through.{have_accounts}
use Rattle.gs_laws_chunks.proofs.accounts.runs_have_accounts.Goals as goal

pub returns-clause-some : goal.returns-clause-some
returns-clause-some c s = have_accounts

pub returns-clause-first : goal.returns-clause-first
returns-clause-first c s = first_is_one

pub returns-clause-next : goal.returns-clause-next
returns-clause-next c s = next_is_one
