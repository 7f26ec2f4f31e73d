use Rattle.gs_laws_scripts.proofs.lemmas.runs.Scripts.{any_script_is_reached, each_script_is_reached}
use Rattle.gs_laws_scripts.proofs.runs.each_script_is_reached.Goals as goal

pub returns-clause-sound : goal.returns-clause-sound
returns-clause-sound g c = each_script_is_reached _

pub returns-clause-any : goal.returns-clause-any
returns-clause-any g c = any_script_is_reached _
