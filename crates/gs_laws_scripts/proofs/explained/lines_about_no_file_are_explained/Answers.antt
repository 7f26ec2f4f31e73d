use Rattle.gs_laws_scripts.proofs.lemmas.explained.NoFiles.{lines_without_a_file}
use Rattle.gs_laws_scripts.proofs.explained.lines_about_no_file_are_explained.Goals as goal

pub returns : goal.returns
returns g c = lines_without_a_file
