use Rattle.gs_laws_moves.proofs.lemmas.answers.AtOnce.{at_once}
use Rattle.gs_laws_moves.proofs.answers.looks_and_commits_are_answered_at_once.Goals as goal

pub returns : goal.returns
returns c = at_once
