use Rattle.gs_laws_scripts.proofs.lemmas.explained.ChangeLines.{calm_lines_are_explained}
use Rattle.gs_laws_scripts.proofs.explained.calm_lines_are_explained.Goals as goal

pub returns : goal.returns
returns g c = calm_lines_are_explained
