use Rattle.gs_laws_scripts.proofs.lemmas.explained.CalmCommits.{calm_after_a_commit, calm_until_a_read_fails, calm_until_a_write_fails}
use Rattle.gs_laws_scripts.proofs.explained.calm_lines_after_a_commit_are_explained.Goals as goal

pub returns-clause-ended : goal.returns-clause-ended
returns-clause-ended g c = calm_after_a_commit c.configurations_have_sizes.ensures

pub returns-clause-read_fails : goal.returns-clause-read_fails
returns-clause-read_fails g c = calm_until_a_read_fails c.configurations_have_sizes.ensures

pub returns-clause-write_fails : goal.returns-clause-write_fails
returns-clause-write_fails g c = calm_until_a_write_fails c.configurations_have_sizes.ensures
