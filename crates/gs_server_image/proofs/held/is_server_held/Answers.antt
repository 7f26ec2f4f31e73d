use Rattle.std.proofs.Common.{subst, sym}
use Rattle.gs_server_image.proofs.Servers.{server_held}
use Rattle.gs_server_image.proofs.held.is_server_held.Goals as goal
use Rattle.gs_store.specs.Stores.{Store, restarted}
use Rattle.gs_store_image.specs.StoreWritable.{IsStoreTold, AreSlotsOf, IsStore}

pub returns : goal.returns
returns c =
    server_held c.args.server.now (subst (λ (t : Store). IsStoreTold t → AreSlotsOf t.block t.chunk t.slots → IsStore t.block t.chunk (restarted t)) c.store.ensures c.is_store_held.ensures)
