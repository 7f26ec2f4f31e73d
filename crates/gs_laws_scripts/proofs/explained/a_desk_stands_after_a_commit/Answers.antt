use Rattle.gs_laws_scripts.proofs.lemmas.explained.Committed.{commits_stand}
use Rattle.gs_laws_scripts.proofs.explained.a_desk_stands_after_a_commit.Goals as goal

pub returns : goal.returns
returns g c = commits_stand c.configurations_have_sizes.ensures
