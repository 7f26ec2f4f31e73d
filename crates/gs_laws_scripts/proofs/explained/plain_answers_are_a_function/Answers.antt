use Rattle.gs_laws_scripts.proofs.lemmas.explained.Plainly as plainly
use Rattle.gs_laws_scripts.proofs.explained.plain_answers_are_a_function.Goals as goal

pub returns : goal.returns
returns c = plainly.plain_answers_are_a_function
