-- Seeds without their channels.
use Rattle.std.specs.Prelude.{◌≡◌, ◌+◌, ◌++◌, ℕ, zero, suc, List, [], ◌∷◌, Ok, map}
use Rattle.gs_base.specs.declared.config.Config.{Config}
use Rattle.gs_client.specs.Nodes.{silent}
use Rattle.gs_msg.specs.declared.message.Message.{Message}
use Rattle.gs_msg.specs.declared.node.NodeId.{NodeId}
use Rattle.gs_msg.specs.declared.node.NodeId.TheVariants as ids
use Rattle.gs_master.specs.declared.turn.Turn.{Turn}
use Rattle.gs_nodes.specs.Happenings.{Opens}
use Rattle.gs_nodes.specs.declared.place.MasterPlace.{MasterPlace}
use Rattle.gs_server.specs.Servers as servers
use Rattle.gs_cluster_core.specs.declared.role.Role.{Role}
use Rattle.gs_cluster_core.specs.declared.role.Role.TheVariants.{Master, Server as AServer, Client}
use Rattle.gs_cluster_threads.specs.declared.wiring.Seed.{Seed}

-- a node's number, what it is, and what it sends at first
abbrev pub Row : Type 0 → Type 0
Row D = NodeId × (Role D × List Message)

abbrev pub row_of : {D : Type 0} → Seed (Role D) → Row D
row_of s = (s.line.me, (s.core, s.turn.sent.items))

abbrev pub rows_of : {D : Type 0} → List (Seed (Role D)) → List (Row D)
rows_of seeds = map row_of seeds

-- so many servers and clients that have heard nothing
abbrev pub server_rows : {D : Type 0} → Config → ℕ → List (Row D)
server_rows config zero = []
server_rows config (suc many) = server_rows config many ++ (ids.Server many, (AServer (servers.new many config.block config.chunk), [])) ∷ []

abbrev pub client_rows : {D : Type 0} → ℕ → List (Row D)
client_rows zero = []
client_rows (suc many) = client_rows many ++ (ids.Client (record { 0 = many + 1 }), (Client (silent (record { 0 = many + 1 })), [])) ∷ []

-- the master that the disks tell, with what it sends at first
pub record BeginsSo {D : Type 0} (seen : D → List ℕ) (failures : D → ℕ) (config : Config) (disks : D × D) (s : Seed (Role D)) : Type 0 where
  pub place : MasterPlace D
  pub turn : Turn
  pub row : row_of s ≡ (ids.Master, (Master place, turn.sent.items))
  pub opens : Opens seen failures config disks (Ok turn) place

-- that master, and behind it these
pub record HasMaster {D : Type 0} (seen : D → List ℕ) (failures : D → ℕ) (config : Config) (disks : D × D) (behind : List (Row D)) (seeds : List (Seed (Role D))) : Type 0 where
  pub master : Seed (Role D)
  pub begins : BeginsSo seen failures config disks master
  pub rows : rows_of seeds ≡ row_of master ∷ behind
