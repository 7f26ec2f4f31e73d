use Rattle.std.proofs.Common.{Option, subst}
use Rattle.gs_replica.specs.Seals.{State}
use Rattle.gs_store_image.specs.Inside.{TrashHeld}
use Rattle.gs_store_image.proofs.held.is_trash_held.Goals as goal

pub returns-in-Some : goal.returns-in-Some
returns-in-Some c = subst (λ (o : Option State). TrashHeld o) c.in-Some.ensures c.is_replica_held.ensures
