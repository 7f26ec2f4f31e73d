use Rattle.gs_laws_scripts.proofs.lemmas.explained.Still.{still_lines_are_explained}
use Rattle.gs_laws_scripts.proofs.explained.still_lines_are_explained.Goals as goal

pub returns : goal.returns
returns g c = still_lines_are_explained
