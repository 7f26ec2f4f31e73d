use Rattle.gs_laws_runs.proofs.lemmas.plain.Holding.{places_held}
use Rattle.gs_laws_runs.proofs.plain.places_that_are_copied_are_held.Goals as goal

pub returns : goal.returns
returns g c x = places_held x
