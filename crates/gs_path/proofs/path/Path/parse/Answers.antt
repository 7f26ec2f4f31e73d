use Rattle.gs_path.specs.Element.{is_element}
use Rattle.gs_path.proofs.PathLemmas.{path_text-read_by}
use Rattle.gs_path.proofs.path.Path.parse.Goals as goal

pub returns-clause-text : goal.returns-clause-text
returns-clause-text c = path_text-read_by is_element c.args.text.now _ c.in_ok-path.ensures
