-- What a node does with what it takes is an event of the store.
use Rattle.std.proofs.Common.{◌≡◌, ◌-◌, ℕ, List, Some, Result, refl, sym, subst, inl, slice_get, slice_set}
use Rattle.std.proofs.lemmas.Option.{none-some, same_Some}
use Rattle.gs_base.specs.declared.numbers.ClientId.{ClientId}
use Rattle.gs_base.specs.declared.numbers.Moment.{Moment}
use Rattle.gs_base.specs.declared.numbers.ReqId.{ReqId}
use Rattle.gs_base.specs.declared.refusal.Refusal.{Refusal}
use Rattle.gs_client.specs.Nodes.{Node}
use Rattle.gs_master.specs.declared.turn.Turn.{Turn}
use Rattle.gs_msg.specs.declared.event.DiskId.{DiskId}
use Rattle.gs_msg.specs.declared.event.Happening.{Happening}
use Rattle.gs_msg.specs.declared.event.Happening.TheVariants as happenings
use Rattle.gs_msg.specs.declared.event.Request.{Request}
use Rattle.gs_msg.specs.declared.message.Message.{Message}
use Rattle.gs_msg.specs.declared.node.NodeId.{NodeId}
use Rattle.gs_msg.specs.declared.node.NodeId.TheVariants as ids
use Rattle.gs_msg.specs.declared.node.StoreNode.TheVariants as keepers
use Rattle.gs_msg.specs.declared.sent.Sent as envelopes
use Rattle.gs_nodes.specs.Happenings.{Delivers, Hears, client_in}
use Rattle.gs_nodes.specs.Nodes.{Nodes, with_clients, with_master, with_servers}
use Rattle.gs_nodes.specs.declared.place.MasterPlace.{MasterPlace}
use Rattle.gs_server.specs.Servers.{Server}
use Rattle.gs_world.specs.Histories.{AtNode, History, Upshot, told}
use Rattle.gs_world.specs.Sent.{message_of}
use Rattle.gs_cluster_history.specs.Histories.{doer}
use Rattle.gs_cluster_core.specs.Roles.{ActsAs, HearsAs}
use Rattle.gs_cluster_core.specs.Stores.{node_at}
use Rattle.gs_cluster_core.specs.declared.role.Role.{Role}
use Rattle.gs_cluster_core.specs.declared.role.Role.TheVariants.{Master, Server as AServer, Client}
use Rattle.gs_cluster_core.proofs.Placing.{Moves, client_moves, client_there, master_moves, server_moves, server_there}
use Rattle.gs_cluster_core.proofs.Sending.{chosen}

module _ {D : Type 0} (seen : D → List ℕ) (failures : D → ℕ) (armed : DiskId → ℕ → MasterPlace D → MasterPlace D) where
  -- ---- a message comes

  delivers : (message : Message) (moment : Moment) (me : NodeId) (n : Nodes D) (turn : Result Turn Refusal) (new : Nodes D) → message.to ≡ me → Hears seen failures message moment me n turn new
      → Delivers seen failures message moment n turn new
  unfolding Delivers
  delivers message moment me n turn new to heard = subst (λ t. Hears seen failures message moment t n turn new) (sym to) heard

  record IsHeard (n : Nodes D) (sent : envelopes.Sent) (me : NodeId) (o : Upshot) (after : Role D) : Type 0 where
    turn : Result Turn Refusal
    new : Nodes D
    hears : Hears seen failures sent.message sent.moment me n turn new
    same : o ≡ told turn
    moves : Moves n new me after

  heard_by_master : (n : Nodes D) (sent : envelopes.Sent) (o : Upshot) (after : Role D) → HearsAs seen failures sent (Master n.master) o after → IsHeard n sent ids.Master o after
  heard_by_master n sent o after (place, is, (turn, hears, same)) =
      record { turn = turn; new = with_master place n; hears = (place, refl, hears); same = same; moves = subst (λ r. Moves n (with_master place n) ids.Master r) (sym is) (master_moves n place) }

  heard_by_server : (n : Nodes D) (id : ℕ) (s : Server) (sent : envelopes.Sent) (o : Upshot) (after : Role D) → slice_get n.servers id ≡ Some s → HearsAs seen failures sent (AServer s) o after
      → IsHeard n sent (ids.Server id) o after
  heard_by_server n id s sent o after found (next, is, (turn, does, same)) = record {
    turn = turn;
    new = with_servers (slice_set n.servers id next) n;
    hears = chosen (slice_get n.servers id) s _ _ found (next, refl, does);
    same = same;
    moves = subst (λ r. Moves n (with_servers (slice_set n.servers id next) n) (ids.Server id) r) (sym is) (server_moves n id s next found);
  }

  heard_by_client : (n : Nodes D) (id : ClientId) (c : Node) (sent : envelopes.Sent) (o : Upshot) (after : Role D) → client_in n.clients id ≡ Some c → HearsAs seen failures sent (Client c) o after
      → IsHeard n sent (ids.Client id) o after
  heard_by_client n id c sent o after found (next, is, (turn, (said, hears, says), same)) = record {
    turn = turn;
    new = with_clients (slice_set n.clients (id.0 - 1) next) n;
    hears = (said, chosen (client_in n.clients id) c _ _ found (next, refl, hears), says);
    same = same;
    moves = subst (λ r. Moves n (with_clients (slice_set n.clients (id.0 - 1) next) n) (ids.Client id) r) (sym is) (client_moves n id c next found);
  }

  heard : (n : Nodes D) (me : NodeId) (sent : envelopes.Sent) (core : Role D) (o : Upshot) (after : Role D) → node_at n me ≡ Some core → HearsAs seen failures sent core o after → IsHeard n sent me o after
  heard n ids.Master sent core o after at does = heard_by_master n sent o after (subst (λ r. HearsAs seen failures sent r o after) (sym (same_Some (Master n.master) core at)) does)
  heard n (ids.Server id) sent core o after at does =
      let there = server_there (slice_get n.servers id) core at in
      heard_by_server n id there.0 sent o after there.1 (subst (λ r. HearsAs seen failures sent r o after) there.2 does)
  heard n (ids.Client id) sent core o after at does =
      let there = client_there (client_in n.clients id) core at in
      heard_by_client n id there.0 sent o after there.1 (subst (λ r. HearsAs seen failures sent r o after) there.2 does)

  pub record Occurs (moment : Moment) (happening : Happening) (old : History D) (me : NodeId) (o : Upshot) (after : Role D) : Type 0 where
    pub new : Nodes D
    pub at : AtNode seen failures armed moment happening old me o new
    pub moves : Moves old.nodes new me after

  -- what stands in its sender's list comes to whom it was sent
  pub hearing_occurs : (h : History D) (me : NodeId) (sent : envelopes.Sent) (core : Role D) (o : Upshot) (after : Role D) → sent.message.to ≡ me
      → message_of h.sent (record { sender = sent.from; place = sent.place }) ≡ Some sent.message → node_at h.nodes me ≡ Some core → HearsAs seen failures sent core o after
      → Occurs sent.moment (happenings.Deliver (record { sender = sent.from; place = sent.place })) h me o after
  hearing_occurs h me sent core o after to stands at does =
      let r = heard h.nodes me sent core o after at does in record {
        new = r.new;
        at = chosen (message_of h.sent (record { sender = sent.from; place = sent.place })) sent.message _ _ stands
            (inl (sym to, r.turn, delivers sent.message sent.moment me h.nodes r.turn r.new to r.hears, r.same));
        moves = r.moves;
      }

  -- ---- a node does something by itself

  asking : (moment : Moment) (req : ReqId) (request : Request) (h : History D) (c : Node) (o : Upshot) (after : Role D) → client_in h.nodes.clients req.client ≡ Some c
      → ActsAs seen failures moment (happenings.Ask req request) (Client c) o after → Occurs moment (happenings.Ask req request) h (ids.Client req.client) o after
  asking moment req request h c o after found (next, is, (out, asked, same)) = record {
    new = with_clients (slice_set h.nodes.clients (req.client.0 - 1) next) h.nodes;
    at = (refl, (out, chosen (client_in h.nodes.clients req.client) c _ _ found (next, refl, asked), same));
    moves = subst (λ r. Moves h.nodes (with_clients (slice_set h.nodes.clients (req.client.0 - 1) next) h.nodes) (ids.Client req.client) r) (sym is) (client_moves h.nodes req.client c next found);
  }

  master_ticks : (moment : Moment) (h : History D) (o : Upshot) (after : Role D) → ActsAs seen failures moment (happenings.Tick keepers.Master) (Master h.nodes.master) o after
      → Occurs moment (happenings.Tick keepers.Master) h ids.Master o after
  master_ticks moment h o after (place, is, (turn, ticks, same)) = record {
    new = with_master place h.nodes;
    at = (refl, (place, turn, ticks, refl, same));
    moves = subst (λ r. Moves h.nodes (with_master place h.nodes) ids.Master r) (sym is) (master_moves h.nodes place);
  }

  server_ticks : (moment : Moment) (id : ℕ) (h : History D) (s : Server) (o : Upshot) (after : Role D) → slice_get h.nodes.servers id ≡ Some s
      → ActsAs seen failures moment (happenings.Tick (keepers.Server id)) (AServer s) o after → Occurs moment (happenings.Tick (keepers.Server id)) h (ids.Server id) o after
  server_ticks moment id h s o after found (next, is, (turn, does, same)) = record {
    new = with_servers (slice_set h.nodes.servers id next) h.nodes;
    at = (refl, (turn, chosen (slice_get h.nodes.servers id) s _ _ found (next, refl, does), same));
    moves = subst (λ r. Moves h.nodes (with_servers (slice_set h.nodes.servers id next) h.nodes) (ids.Server id) r) (sym is) (server_moves h.nodes id s next found);
  }

  -- for the node whose event it is
  at_doer : (moment : Moment) (happening : Happening) (h : History D) (doing me : NodeId) (core : Role D) (o : Upshot) (after : Role D)
      → (node_at h.nodes doing ≡ Some core → Occurs moment happening h doing o after) → Some doing ≡ Some me → node_at h.nodes me ≡ Some core → Occurs moment happening h me o after
  at_doer moment happening h doing me core o after occurs same at =
      let is = same_Some doing me same in
      subst (λ m. Occurs moment happening h m o after) is (occurs (subst (λ m. node_at h.nodes m ≡ Some core) (sym is) at))

  pub acting_occurs : (moment : Moment) (happening : Happening) (h : History D) (me : NodeId) (core : Role D) (o : Upshot) (after : Role D) → doer happening ≡ Some me → node_at h.nodes me ≡ Some core
      → ActsAs seen failures moment happening core o after → Occurs moment happening h me o after
  acting_occurs moment (happenings.Ask req request) h me core o after by at does =
      at_doer moment (happenings.Ask req request) h (ids.Client req.client) me core o after
      (λ found. let there = client_there (client_in h.nodes.clients req.client) core found in
      asking moment req request h there.0 o after there.1 (subst (λ r. ActsAs seen failures moment (happenings.Ask req request) r o after) there.2 does)) by at
  acting_occurs moment (happenings.Tick keepers.Master) h me core o after by at does =
      at_doer moment (happenings.Tick keepers.Master) h ids.Master me core o after
      (λ found. master_ticks moment h o after (subst (λ r. ActsAs seen failures moment (happenings.Tick keepers.Master) r o after) (sym (same_Some (Master h.nodes.master) core found)) does)) by at
  acting_occurs moment (happenings.Tick (keepers.Server id)) h me core o after by at does =
      at_doer moment (happenings.Tick (keepers.Server id)) h (ids.Server id) me core o after
      (λ found. let there = server_there (slice_get h.nodes.servers id) core found in
      server_ticks moment id h there.0 o after there.1 (subst (λ r. ActsAs seen failures moment (happenings.Tick (keepers.Server id)) r o after) there.2 does)) by at
  acting_occurs moment (happenings.Deliver id) h me core o after by at does = absurd (none-some me by)
  acting_occurs moment (happenings.Beat id) h me core o after by at does = absurd (none-some me by)
  acting_occurs moment (happenings.Restart node) h me core o after by at does = absurd (none-some me by)
  acting_occurs moment (happenings.Lose id handle) h me core o after by at does = absurd (none-some me by)
  acting_occurs moment (happenings.Damage id handle block) h me core o after by at does = absurd (none-some me by)
  acting_occurs moment (happenings.FailDisk disk call) h me core o after by at does = absurd (none-some me by)
