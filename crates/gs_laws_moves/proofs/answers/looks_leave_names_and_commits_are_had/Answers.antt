use Rattle.gs_laws_moves.proofs.lemmas.answers.Resting.{commits_had, lists_answered, looks_leave}
use Rattle.gs_laws_moves.proofs.answers.looks_leave_names_and_commits_are_had.Goals as goal

pub returns-clause-looks : goal.returns-clause-looks
returns-clause-looks c = looks_leave

pub returns-clause-listed : goal.returns-clause-listed
returns-clause-listed c = lists_answered

pub returns-clause-commits : goal.returns-clause-commits
returns-clause-commits c = commits_had
