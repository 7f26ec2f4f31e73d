use Rattle.gs_laws_moves.proofs.lemmas.looks.Commits.{prepares_leave, rollbacks_leave}
use Rattle.gs_laws_moves.proofs.looks.no_chunk_is_leased_behind_a_commit.Goals as goal

pub returns-clause-prepares : goal.returns-clause-prepares
returns-clause-prepares c = prepares_leave

pub returns-clause-rollbacks : goal.returns-clause-rollbacks
returns-clause-rollbacks c = rollbacks_leave
