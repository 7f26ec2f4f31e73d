use Rattle.gs_server.proofs.Behind.{goes_back, comes_back}
use Rattle.gs_server.proofs.promises.a_rollback_makes_live_what_was_sealed.Goals as goal

pub returns-clause-stands : goal.returns-clause-stands
returns-clause-stands c = λ handle edits events s stands keep live. goes_back handle edits events s stands keep live

pub returns-clause-live : goal.returns-clause-live
returns-clause-live c = λ handle events s live undamaged keep spare. comes_back handle events s live undamaged keep spare
