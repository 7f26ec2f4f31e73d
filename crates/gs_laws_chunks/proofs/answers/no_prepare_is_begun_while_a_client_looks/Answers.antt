use Rattle.gs_laws_chunks.proofs.lemmas.answers.Calm.{commits_are_calm, stays_calm}
use Rattle.gs_laws_chunks.proofs.answers.no_prepare_is_begun_while_a_client_looks.Goals as goal

pub returns-clause-stays : goal.returns-clause-stays
returns-clause-stays g c = stays_calm

pub returns-clause-commits : goal.returns-clause-commits
returns-clause-commits g c = commits_are_calm
