use Rattle.gs_laws_plain.proofs.lemmas.calm.Trees.{tree_calls_go}
use Rattle.gs_laws_plain.proofs.calm.calls_of_the_tree_are_commands.Goals as goal

pub returns : goal.returns
returns c = tree_calls_go
