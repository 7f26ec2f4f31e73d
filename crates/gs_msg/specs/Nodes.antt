-- How a node is named in a line, and which nodes keep something of the store.
use Rattle.std.specs.Prelude.{◌≡◌, ◌++◌, ℕ, List, codes, decimal, refl}
use Rattle.gs_msg.specs.declared.node.NodeId.{NodeId}
use Rattle.gs_msg.specs.declared.node.NodeId.TheVariants.{Master, Server, Client}
use Rattle.gs_msg.specs.declared.node.StoreNode.{StoreNode}
use Rattle.gs_msg.specs.declared.node.StoreNode.TheVariants as keepers

abbrev pub as_node : StoreNode → NodeId
as_node keepers.Master = Master
as_node (keepers.Server s) = Server s

abbrev pub node_text : NodeId → List ℕ
node_text Master = codes "M"
node_text (Server s) = codes "S" ++ decimal s
node_text (Client c) = codes "C" ++ decimal c.0

the_master : node_text Master ≡ codes "M"
the_master = refl

the_third_server : node_text (Server 2) ≡ codes "S" ++ decimal 2
the_third_server = refl

a_client : node_text (Client (record { 0 = 10 })) ≡ codes "C" ++ decimal 10
a_client = refl
