-- The nodes of a cluster as those of a store.
use Rattle.std.specs.Prelude.{◌≡◌, ℕ, false, List, map, Option, Some, option_map, slice_get, refl}
use Rattle.gs_base.specs.declared.numbers.Moment.{Moment}
use Rattle.gs_client.specs.Nodes.{Node}
use Rattle.gs_msg.specs.Posts.{posted}
use Rattle.gs_msg.specs.declared.event.DiskId.{DiskId}
use Rattle.gs_msg.specs.declared.message.Message.{Message}
use Rattle.gs_msg.specs.declared.node.NodeId.{NodeId}
use Rattle.gs_msg.specs.declared.node.NodeId.TheVariants as ids
use Rattle.gs_msg.specs.declared.outbox.Post.{Post}
use Rattle.gs_nodes.specs.Happenings.{client_in}
use Rattle.gs_nodes.specs.Nodes.{Nodes}
use Rattle.gs_nodes.specs.declared.place.MasterPlace.{MasterPlace}
use Rattle.gs_server.specs.Servers.{Server}
use Rattle.gs_world.specs.Histories.{Begins, History}
use Rattle.gs_world.specs.Runs.{HappensAll}
use Rattle.gs_world.specs.Sent.{posts_of}
use Rattle.gs_cluster_history.specs.Histories.{Among, Kept, Line, Listed, listed, said_of}
use Rattle.gs_cluster_history.specs.Merging.{Place, Rises, event_of, lines_of, mine}
use Rattle.gs_cluster_history.specs.Setting.{Setting}
use Rattle.gs_cluster_core.specs.declared.role.Role.{Role}
use Rattle.gs_cluster_core.specs.declared.role.Role.TheVariants.{Master, Server as AServer, Client}

abbrev pub as_server : {D : Type 0} → Option Server → Option (Role D)
as_server o = option_map (λ s. AServer s) o

abbrev pub as_client : {D : Type 0} → Option Node → Option (Role D)
as_client o = option_map (λ c. Client c) o

-- the node of this number, if there is one
abbrev pub node_at : {D : Type 0} → Nodes D → NodeId → Option (Role D)
node_at n ids.Master = Some (Master n.master)
node_at n (ids.Server id) = as_server (slice_get n.servers id)
node_at n (ids.Client id) = as_client (client_in n.clients id)

-- what a node's list keeps, as it stands among what was sent
abbrev pub post_of : Listed → Post
post_of l = posted l.moment l.message

-- a node, and all that it has sent, as they stand in a store
pub record StandsIn {D : Type 0} (h : History D) (l : Line (Role D)) : Type 0 where
  pub node : node_at h.nodes l.me ≡ Some l.past.core
  pub sent : posts_of h.sent l.me ≡ Some (map post_of l.past.sent)

-- all of these stand so, and no message was lost
pub record AreIn {D : Type 0} (lines : List (Line (Role D))) (h : History D) : Type 0 where
  pub all : (l : Line (Role D)) → Among lines l → StandsIn h l
  pub none_lost : h.sent.has_lost ≡ false

abbrev pub numbers : {D : Type 0} → List (Line (Role D)) → List NodeId
numbers {D} lines = map (λ (l : Line (Role D)). l.me) lines

-- no number stands twice
abbrev pub Differ : List NodeId → Type 0
Differ ids = (i j : ℕ) (me : NodeId) → slice_get ids i ≡ Some me → slice_get ids j ≡ Some me → i ≡ j

-- The sizes stay, and so does each node that isn't among these, with what it has sent.
pub record OthersStay {D : Type 0} (ids : List NodeId) (old new : History D) : Type 0 where
  pub config : new.nodes.config ≡ old.nodes.config
  pub node : (me : NodeId) → (Among ids me → ⊥) → node_at new.nodes me ≡ node_at old.nodes me
  pub sent : (me : NodeId) → (Among ids me → ⊥) → posts_of new.sent me ≡ posts_of old.sent me

module _ {D : Type 0} (seen : D → List ℕ) (failures : D → ℕ) (armed : DiskId → ℕ → MasterPlace D → MasterPlace D) where
  -- The entries, one after the other, are events of a store that has begun new, over disks that say what the setting says. They lead to
  -- a store in which each of the nodes is what its history makes of it, and has sent what that says; any other node is as it began.
  -- Each history stands among the entries in its order, and clocks never fall.
  pub record IsStoreRun (setting : Setting) (ks : List (Kept (Role D))) (places : List Place) : Type 0 where
    pub disks : D × D
    pub begun : History D
    pub end : History D
    pub texts : (seen disks.0, seen disks.1) ≡ setting.texts
    pub begins : Begins seen failures armed setting.config setting.clients disks begun
    pub happens : HappensAll seen failures armed (map (λ (p : Place). event_of p.entry.took) places) (map (λ (p : Place). said_of p.entry.outcome) places) begun end
    pub stand : AreIn (lines_of ks) end
    pub others : OthersStay (map (λ (k : Kept (Role D)). k.me) ks) begun end
    pub each : (i : ℕ) (k : Kept (Role D)) → slice_get ks i ≡ Some k → mine i places ≡ k.entries
    pub rises : Rises 0 places

-- Worked: the master is found by its number, and what was sent at a clock stands at its moment.
the_master_is_found : {D : Type 0} (n : Nodes D) → node_at n ids.Master ≡ Some (Master n.master)
the_master_is_found n = refl

it_stands_at_its_moment : (clock : ℕ) (moment : Moment) (message : Message) → post_of (listed clock moment message) ≡ posted moment message
it_stands_at_its_moment clock moment message = refl
