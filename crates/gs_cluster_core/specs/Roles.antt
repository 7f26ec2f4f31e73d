-- What each kind of node does with what it takes, and how it begins.
use Rattle.std.specs.Prelude.{◌≡◌, ◌≤◌, ℕ, List, [], Option, Some, Result, Ok, Err, Vec, slice_get, refl}
use Rattle.std.specs.declared.alloc.Global.{Global}
use Rattle.gs_base.specs.declared.numbers.Moment.{Moment}
use Rattle.gs_base.specs.declared.refusal.Refusal.{Refusal}
use Rattle.gs_base.specs.declared.refusal.Refusal.TheVariants as refusals
use Rattle.gs_client.specs.Nodes.{Node, silent}
use Rattle.gs_msg.specs.declared.event.Happening.{Happening}
use Rattle.gs_msg.specs.declared.event.Happening.TheVariants as happenings
use Rattle.gs_msg.specs.declared.message.Message.{Message}
use Rattle.gs_msg.specs.declared.node.NodeId.{NodeId}
use Rattle.gs_msg.specs.declared.node.NodeId.TheVariants as ids
use Rattle.gs_msg.specs.declared.node.StoreNode.TheVariants as keepers
use Rattle.gs_msg.specs.declared.sent.Sent.{Sent}
use Rattle.gs_master.specs.declared.turn.Turn.{Turn}
use Rattle.gs_server.specs.Servers.{Server, Step}
use Rattle.gs_server.specs.Servers as servers
use Rattle.gs_nodes.specs.Happenings.{ClientAsks, ClientHears, MasterHears, MasterTicks, Opens, Says, ServerDoes}
use Rattle.gs_nodes.specs.Nodes.{new_servers}
use Rattle.gs_nodes.specs.declared.place.MasterPlace.{MasterPlace}
use Rattle.gs_world.specs.Histories.{asked, told}
use Rattle.gs_cluster_history.specs.declared.took.Took.{Took}
use Rattle.gs_cluster_history.specs.declared.took.Took.TheVariants.{Heard, Did}
use Rattle.gs_cluster_history.specs.Histories.{Upshot}
use Rattle.gs_cluster_history.specs.Setting.{Setting}
use Rattle.gs_cluster_core.specs.declared.role.Role.{Role}
use Rattle.gs_cluster_core.specs.declared.role.Role.TheVariants.{Master, Server as AServer, Client}

-- It is nothing that such a node does.
abbrev pub IsStray : {A : Type 0} → A → Upshot → A → Type 0
IsStray old outcome new = (outcome ≡ Err refusals.Stray) × (new ≡ old)

-- ---- a server

abbrev pub ServerTakes : Step → Server → Upshot → Server → Type 0
ServerTakes step old outcome new = (turn : Result Turn Refusal) × ServerDoes step old turn new × (outcome ≡ told turn)

-- its clock ticks
abbrev pub ServerActs : Moment → Happening → Server → Upshot → Server → Type 0
ServerActs moment (happenings.Tick (keepers.Server id)) old outcome new = ServerTakes (servers.tick old moment) old outcome new
ServerActs moment happening old outcome new = IsStray old outcome new

-- ---- a client

-- it says how it is met, and sends nothing
abbrev pub ClientTurns : Message → Node → Result Turn Refusal → Node → Type 0
ClientTurns message old turn new = (said : Option Refusal) × ClientHears message.body old said new × Says said turn

abbrev pub ClientTakes : Message → Node → Upshot → Node → Type 0
ClientTakes message old outcome new = (turn : Result Turn Refusal) × ClientTurns message old turn new × (outcome ≡ told turn)

-- it asks
abbrev pub ClientActs : Happening → Node → Upshot → Node → Type 0
ClientActs (happenings.Ask req request) old outcome new = (out : Result (Vec Message Global) Refusal) × ClientAsks req.number request old out new × (outcome ≡ asked out)
ClientActs happening old outcome new = IsStray old outcome new

module _ {D : Type 0} (seen : D → List ℕ) (failures : D → ℕ) where
  -- ---- the master

  abbrev pub MasterTakes : Message → Moment → MasterPlace D → Upshot → MasterPlace D → Type 0
  MasterTakes message moment old outcome new = (turn : Result Turn Refusal) × MasterHears seen failures message moment old turn new × (outcome ≡ told turn)

  -- its clock ticks
  abbrev pub MasterActs : Moment → Happening → MasterPlace D → Upshot → MasterPlace D → Type 0
  MasterActs moment (happenings.Tick keepers.Master) old outcome new = (turn : Result Turn Refusal) × MasterTicks seen failures moment old turn new × (outcome ≡ told turn)
  MasterActs moment happening old outcome new = IsStray old outcome new

  -- ---- any of them

  -- what was sent to it comes
  abbrev pub HearsAs : Sent → Role D → Upshot → Role D → Type 0
  HearsAs sent (Master place) outcome new = (after : MasterPlace D) × (new ≡ Master after) × MasterTakes sent.message sent.moment place outcome after
  HearsAs sent (AServer server) outcome new =
      (after : Server) × (new ≡ AServer after) × ServerTakes (servers.handle server sent.message sent.moment) server outcome after
  HearsAs sent (Client node) outcome new = (after : Node) × (new ≡ Client after) × ClientTakes sent.message node outcome after

  -- it does something by itself
  abbrev pub ActsAs : Moment → Happening → Role D → Upshot → Role D → Type 0
  ActsAs moment happening (Master place) outcome new = (after : MasterPlace D) × (new ≡ Master after) × MasterActs moment happening place outcome after
  ActsAs moment happening (AServer server) outcome new = (after : Server) × (new ≡ AServer after) × ServerActs moment happening server outcome after
  ActsAs moment happening (Client node) outcome new = (after : Node) × (new ≡ Client after) × ClientActs happening node outcome after

  abbrev pub DoesAs : Took → Role D → Upshot → Role D → Type 0
  DoesAs (Heard sent) old outcome new = HearsAs sent old outcome new
  DoesAs (Did event) old outcome new = ActsAs event.moment event.happening old outcome new

  -- A master is what its disks tell, which are seen to say what the setting says; a server and a client have heard nothing.
  abbrev pub StartsAs : Setting → NodeId → Role D → List Message → Type 0
  StartsAs setting ids.Master (Master place) first =
      (disks : D × D) × (turn : Turn) × ((seen disks.0, seen disks.1) ≡ setting.texts) × Opens seen failures setting.config disks (Ok turn) place × (first ≡ turn.sent.items)
  StartsAs setting (ids.Server id) (AServer server) first = (slice_get (new_servers setting.config) id ≡ Some server) × (first ≡ [])
  StartsAs setting (ids.Client id) (Client node) first = (1 ≤ id.0) × (id.0 ≤ setting.clients) × (node ≡ silent id) × (first ≡ [])
  StartsAs setting me role first = ⊥

-- Worked: a client asks, and its clock never ticks.
no_client_ticks : (node : Node) → ClientActs (happenings.Tick keepers.Master) node (Err refusals.Stray) node
no_client_ticks node = (refl, refl)
