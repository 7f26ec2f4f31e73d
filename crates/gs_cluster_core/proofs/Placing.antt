-- One node of a store goes on, and the others stay.
use Rattle.std.proofs.Common.{◌≡◌, ◌-◌, ◌==◌, ℕ, Option, Some, None, refl, sym, ap, slice_get, slice_set}
use Rattle.std.proofs.lemmas.Option.{none-some, same_Some}
use Rattle.gs_base.specs.declared.numbers.ClientId.{ClientId}
use Rattle.gs_client.specs.Nodes.{Node}
use Rattle.gs_msg.specs.declared.node.NodeId.{NodeId}
use Rattle.gs_msg.specs.declared.node.NodeId.TheVariants as ids
use Rattle.gs_nodes.specs.Happenings.{client_in}
use Rattle.gs_nodes.specs.Nodes.{Nodes, with_clients, with_master, with_servers}
use Rattle.gs_nodes.specs.declared.place.MasterPlace.{MasterPlace}
use Rattle.gs_server.specs.Servers.{Server}
use Rattle.gs_cluster_core.specs.Stores.{as_client, as_server, node_at}
use Rattle.gs_cluster_core.specs.declared.role.Role.{Role}
use Rattle.gs_cluster_core.specs.declared.role.Role.TheVariants.{Master, Server as AServer, Client}
use Rattle.gs_cluster_core.proofs.Sending.{counted_else, counted_here, get_set_else, get_set_here, no_nought}

pub record Moves {D : Type 0} (old new : Nodes D) (me : NodeId) (after : Role D) : Type 0 where
  pub here : node_at new me ≡ Some after
  pub others : (other : NodeId) → (me ≡ other → ⊥) → node_at new other ≡ node_at old other
  pub config : new.config ≡ old.config

module _ {D : Type 0} (n : Nodes D) where
  beside_master : (place : MasterPlace D) (other : NodeId) → (ids.Master ≡ other → ⊥) → node_at (with_master place n) other ≡ node_at n other
  beside_master place ids.Master differ = absurd (differ refl)
  beside_master place (ids.Server j) differ = refl
  beside_master place (ids.Client j) differ = refl

  pub master_moves : (place : MasterPlace D) → Moves n (with_master place n) ids.Master (Master place)
  master_moves place = record { here = refl; others = beside_master place; config = refl }

  beside_server : (i : ℕ) (after : Server) (other : NodeId) → (ids.Server i ≡ other → ⊥) → node_at (with_servers (slice_set n.servers i after) n) other ≡ node_at n other
  beside_server i after ids.Master differ = refl
  beside_server i after (ids.Server j) differ = ap (as_server {D = D}) (get_set_else n.servers i j after (λ e. differ (ap ids.Server e)))
  beside_server i after (ids.Client j) differ = refl

  pub server_moves : (id : ℕ) (s after : Server) → slice_get n.servers id ≡ Some s → Moves n (with_servers (slice_set n.servers id after) n) (ids.Server id) (AServer after)
  server_moves id s after h =
      record { here = ap (as_server {D = D}) (get_set_here n.servers id s after h); others = beside_server id after; config = refl }

  beside_client : (i : ClientId) (c after : Node) → client_in n.clients i ≡ Some c → (other : NodeId) → (ids.Client i ≡ other → ⊥)
      → node_at (with_clients (slice_set n.clients (i.0 - 1) after) n) other ≡ node_at n other
  beside_client i c after h ids.Master differ = refl
  beside_client i c after h (ids.Server j) differ = refl
  beside_client i c after h (ids.Client j) differ =
      ap (as_client {D = D})
      (counted_else n.clients i.0 j.0 after (no_nought i.0 (slice_get n.clients (i.0 - 1)) c h) (λ e. differ (ap (λ (m : ℕ). ids.Client (record { 0 = m })) e)))

  pub client_moves : (id : ClientId) (c after : Node) → client_in n.clients id ≡ Some c → Moves n (with_clients (slice_set n.clients (id.0 - 1) after) n) (ids.Client id) (Client after)
  client_moves id c after h = record {
    here = ap (as_client {D = D}) (counted_here (id.0 == 0) n.clients (id.0 - 1) c after h);
    others = beside_client id c after h;
    config = refl;
  }

-- ---- which node it is

module _ {D : Type 0} where
  pub server_there : (o : Option Server) (role : Role D) → as_server o ≡ Some role → (s : Server) × (o ≡ Some s) × (role ≡ AServer s)
  server_there None role h = absurd (none-some role h)
  server_there (Some s) role h = (s, refl, sym (same_Some (AServer s) role h))

  pub client_there : (o : Option Node) (role : Role D) → as_client o ≡ Some role → (c : Node) × (o ≡ Some c) × (role ≡ Client c)
  client_there None role h = absurd (none-some role h)
  client_there (Some c) role h = (c, refl, sym (same_Some (Client c) role h))
