use Rattle.gs_laws_looks.proofs.lemmas.halts.Commits.{commits_halt, commits_unled}
use Rattle.gs_laws_looks.proofs.halts.a_commit_halts_a_store.Goals as goal

pub returns-clause-unled : goal.returns-clause-unled
returns-clause-unled g c = commits_unled

pub returns-clause-halts : goal.returns-clause-halts
returns-clause-halts g c = commits_halt
