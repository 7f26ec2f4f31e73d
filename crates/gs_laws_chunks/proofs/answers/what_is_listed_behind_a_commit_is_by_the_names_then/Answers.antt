use Rattle.gs_laws_chunks.proofs.lemmas.answers.Behind.{lists_are_by_commits}
use Rattle.gs_laws_chunks.proofs.answers.what_is_listed_behind_a_commit_is_by_the_names_then.Goals as goal

pub returns : goal.returns
returns g c = lists_are_by_commits
