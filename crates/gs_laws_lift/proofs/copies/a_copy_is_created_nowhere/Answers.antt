use Rattle.gs_laws_lift.proofs.lemmas.copies.Made.{once_puts, once_unmade}
use Rattle.gs_laws_lift.proofs.copies.a_copy_is_created_nowhere.Goals as goal
use Rattle.gs_laws_lift.specs.copies.Made.{NotMadeSo}

pub returns-clause-stays : goal.returns-clause-stays
returns-clause-stays c made config heard s t turn k = once_unmade config heard (NotMadeSo made) s t turn k

pub returns-clause-puts : goal.returns-clause-puts
returns-clause-puts c made config heard s t turn k = once_puts config heard (NotMadeSo made) s t turn k
