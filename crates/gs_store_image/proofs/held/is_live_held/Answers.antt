use Rattle.std.proofs.Common.{Option, subst}
use Rattle.gs_store.specs.Slots.{Live}
use Rattle.gs_store_image.specs.Inside.{LiveHeld}
use Rattle.gs_store_image.specs.StoreWritable.{IsReplicaHeld}
use Rattle.gs_replica.specs.Seals.{State}
use Rattle.gs_store_image.proofs.held.is_live_held.Goals as goal

pub returns-in-Some : goal.returns-in-Some
returns-in-Some c = subst (λ (o : Option Live). LiveHeld o) c.in-Some.ensures (subst (λ (r : State). IsReplicaHeld r) c.replica.ensures c.is_replica_held.ensures)
