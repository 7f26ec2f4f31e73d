use Rattle.gs_laws_master.proofs.lemmas.views.Choosing.{made_of_the_most}
use Rattle.gs_laws_master.proofs.views_are_of_those_with_the_most_edits.Goals as goal

pub returns : goal.returns
returns c = made_of_the_most
