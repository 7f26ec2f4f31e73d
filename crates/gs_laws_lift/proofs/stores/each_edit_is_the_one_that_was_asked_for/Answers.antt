use Rattle.gs_laws_lift.proofs.lemmas.stores.Owning.{asking_goes_on, newborns_asked, newborns_own, owning_goes_on}
use Rattle.gs_laws_lift.proofs.stores.each_edit_is_the_one_that_was_asked_for.Goals as goal

pub returns-clause-newborn : goal.returns-clause-newborn
returns-clause-newborn g c seen config bytes asked = newborns_own seen config bytes asked

pub returns-clause-goes_on : goal.returns-clause-goes_on
returns-clause-goes_on g c seen config bytes asked = owning_goes_on seen config bytes asked

pub returns-clause-newborn_asked : goal.returns-clause-newborn_asked
returns-clause-newborn_asked g c seen config bytes = newborns_asked seen config bytes

pub returns-clause-asked_on : goal.returns-clause-asked_on
returns-clause-asked_on g c seen config bytes asked = asking_goes_on seen config bytes asked
