use Rattle.gs_laws_plain.proofs.lemmas.commands.Answering.{calls_answer}
use Rattle.gs_laws_plain.proofs.commands.calls_of_the_tree_are_answered_plainly.Goals as goal

pub returns : goal.returns
returns c = calls_answer
