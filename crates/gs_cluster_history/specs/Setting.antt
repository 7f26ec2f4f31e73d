-- With what the nodes of a cluster begin, and which nodes there are.
use Rattle.std.specs.Prelude.{◌≡◌, ◌+◌, ◌++◌, ℕ, zero, suc, List, [], ◌∷◌, refl}
use Rattle.gs_base.specs.declared.config.Config.{Config}
use Rattle.gs_msg.specs.declared.node.NodeId.{NodeId}
use Rattle.gs_msg.specs.declared.node.NodeId.TheVariants.{Master, Server, Client}

-- the sizes of the store, how many clients there are, and what its journal's disks are seen to say
pub record Setting : Type 0 where
  pub config : Config
  pub clients : ℕ
  pub texts : List ℕ × List ℕ

-- so many servers, from 0
abbrev pub server_ids : ℕ → List NodeId
server_ids zero = []
server_ids (suc many) = server_ids many ++ Server many ∷ []

-- so many clients, from 1
abbrev pub client_ids : ℕ → List NodeId
client_ids zero = []
client_ids (suc many) = client_ids many ++ Client (record { 0 = many + 1 }) ∷ []

-- the nodes that keep something of the store: the master, and the servers
abbrev pub store_ids : Setting → List NodeId
store_ids s = Master ∷ server_ids s.config.servers

-- all nodes, each once: the master, the servers, the clients
abbrev pub all_ids : Setting → List NodeId
all_ids s = store_ids s ++ client_ids s.clients

-- of nothing at all
abbrev pub no_setting : Setting
no_setting = record { config = record { servers = 1; racks = 1; replicas = 1; block = 1; chunk = 1; valid = refl }; clients = 0; texts = ([], []) }

-- Worked: a master, a server, and two clients.
four_nodes : all_ids (record no_setting { clients = 2 }) ≡ Master ∷ Server 0 ∷ Client (record { 0 = 1 }) ∷ Client (record { 0 = 2 }) ∷ []
four_nodes = refl
