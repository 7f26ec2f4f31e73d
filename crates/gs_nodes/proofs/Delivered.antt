-- A message that came to its receiver.
use Rattle.std.proofs.Common.{◌≡◌, ◌∙◌, ℕ, List, Option, None, Result, refl, subst, sym}
use Rattle.gs_base.specs.declared.numbers.ClientId.{ClientId}
use Rattle.gs_base.specs.declared.numbers.Moment.{Moment}
use Rattle.gs_base.specs.declared.refusal.Refusal.{Refusal}
use Rattle.gs_master.specs.declared.turn.Turn.{Turn}
use Rattle.gs_msg.specs.declared.message.Message.{Message}
use Rattle.gs_msg.specs.declared.node.NodeId.{NodeId}
use Rattle.gs_msg.specs.declared.node.NodeId.TheVariants as nodes
use Rattle.gs_server.specs.Servers as servers
use Rattle.gs_nodes.specs.Happenings.{AtClient, AtServer, ClientHears, Delivers, Hears, MasterHears, Says, ServerDoes}
use Rattle.gs_nodes.specs.Nodes.{Nodes, with_master}
use Rattle.gs_nodes.specs.declared.place.MasterPlace.{MasterPlace}

module _ {D : Type 0} (seen : D → List ℕ) (failures : D → ℕ) (message : Message) (moment : Moment) (to : NodeId) (same : to ≡ message.to) (old : Nodes D) where
  delivers : (id : NodeId) (result : Result Turn Refusal) (new : Nodes D) → to ≡ id → Hears seen failures message moment id old result new → Delivers seen failures message moment old result new
  unfolding Delivers
  delivers id result new is heard = subst (λ to. Hears seen failures message moment to old result new) (sym is ∙ same) heard

  pub to_master : (result : Result Turn Refusal) (place : MasterPlace D) → to ≡ nodes.Master → MasterHears seen failures message moment old.master result place
      → Delivers seen failures message moment old result (with_master place old)
  to_master result place is heard = delivers nodes.Master result (with_master place old) is (place, refl, heard)

  pub to_server : (id : ℕ) (result : Result Turn Refusal) (new : Nodes D) → to ≡ nodes.Server id → AtServer id (λ s. ServerDoes (servers.handle s message moment) s) old result new
      → Delivers seen failures message moment old result new
  to_server id result new is heard = delivers (nodes.Server id) result new is heard

  pub to_client : (id : ClientId) (said : Option Refusal) (result : Result Turn Refusal) (new : Nodes D) → to ≡ nodes.Client id
      → AtClient id None (ClientHears message.body) old said new → Says said result → Delivers seen failures message moment old result new
  to_client id said result new is heard says = delivers (nodes.Client id) result new is (said, heard, says)
