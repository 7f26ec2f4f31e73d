-- The nodes of a store.
use Rattle.std.specs.Prelude.{◌≡◌, ◌+◌, ◌++◌, ℕ, zero, suc, List, [], ◌∷◌, refl}
use Rattle.gs_base.specs.declared.config.Config.{Config}
use Rattle.gs_base.specs.declared.numbers.ClientId.{ClientId}
use Rattle.gs_client.specs.Nodes.{Node, silent}
use Rattle.gs_server.specs.Servers.{Server}
use Rattle.gs_server.specs.Servers as servers
use Rattle.gs_nodes.specs.declared.place.MasterPlace.{MasterPlace}
use Rattle.gs_nodes.specs.declared.nodes.Nodes as held

-- the master where it is, the servers by their numbers, and the clients, numbered from 1 upwards
pub record Nodes (D : Type 0) : Type 0 where
  pub config : Config
  pub master : MasterPlace D
  pub servers : List Server
  pub clients : List Node

abbrev pub nodes_of : {D : Type 0} → held.Nodes D → Nodes D
nodes_of w = record { config = w.config; master = w.master; servers = w.servers.items; clients = w.clients.items }

abbrev pub with_master : {D : Type 0} → MasterPlace D → Nodes D → Nodes D
with_master place n = record n { master = place }

abbrev pub with_servers : {D : Type 0} → List Server → Nodes D → Nodes D
with_servers servers n = record n { servers = servers }

abbrev pub with_clients : {D : Type 0} → List Node → Nodes D → Nodes D
with_clients clients n = record n { clients = clients }

-- so many servers and clients that have heard nothing
abbrev pub silent_servers : Config → ℕ → List Server
silent_servers config zero = []
silent_servers config (suc many) = silent_servers config many ++ servers.new many config.block config.chunk ∷ []

abbrev pub new_servers : Config → List Server
new_servers config = silent_servers config config.servers

abbrev pub new_clients : ℕ → List Node
new_clients zero = []
new_clients (suc many) = new_clients many ++ silent (record { 0 = many + 1 }) ∷ []

-- servers and clients that have heard nothing, and a master
abbrev pub new_nodes : {D : Type 0} → Config → ℕ → MasterPlace D → Nodes D
new_nodes config clients master = record { config = config; master = master; servers = new_servers config; clients = new_clients clients }

abbrev client : ℕ → ClientId
client id = record { 0 = id }

two_clients : new_clients 2 ≡ silent (client 1) ∷ silent (client 2) ∷ []
two_clients = refl
