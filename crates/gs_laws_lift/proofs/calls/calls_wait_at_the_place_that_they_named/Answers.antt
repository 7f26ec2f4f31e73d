use Rattle.gs_laws_lift.proofs.lemmas.calls.Waits.{asked_grow, asked_start, asked_stay}
use Rattle.gs_laws_lift.proofs.calls.calls_wait_at_the_place_that_they_named.Goals as goal

pub returns : goal.returns
returns c = record { stays = asked_stay; starts = asked_start; grows = asked_grow }
