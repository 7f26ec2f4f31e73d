use Rattle.gs_replica.proofs.Carrying.{stands_as}
use Rattle.gs_replica.proofs.promises.images_stand_as_their_source.Goals as goal

pub returns : goal.returns
returns c r stamp whole = stands_as r.held r.sealed stamp whole.stands
