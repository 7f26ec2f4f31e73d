use Rattle.gs_laws_plain.proofs.lemmas.commands.Doing.{calls_do}
use Rattle.gs_laws_plain.proofs.commands.calls_of_the_tree_do_what_they_answer.Goals as goal

pub returns : goal.returns
returns c = calls_do
