-- Steps of a store are steps of what is seen of it.
use Rattle.std.proofs.Common.{◌≡◌, ◌∙◌, ◌+◌, ◌-◌, ℕ, List, [], ◌∷◌, Option, Some, None, MatchOption, Result, Ok, Err, ap, sym, subst, inl, inr, arith, slice_get, slice_set}
use Rattle.gs_base.specs.Calls.{Does}
use Rattle.gs_base.specs.declared.config.Config.{Config}
use Rattle.gs_base.specs.declared.numbers.ClientId.{ClientId}
use Rattle.gs_base.specs.declared.numbers.Moment.{Moment}
use Rattle.gs_base.specs.declared.refusal.Refusal.{Refusal}
use Rattle.gs_base.specs.declared.refusal.Refusal.TheVariants as refusals
use Rattle.gs_client.specs.Nodes.{Node, given_up}
use Rattle.gs_master.specs.declared.turn.Turn.{Turn as Told}
use Rattle.gs_msg.specs.declared.event.Event.{Event}
use Rattle.gs_msg.specs.declared.event.Happening.{Happening}
use Rattle.gs_msg.specs.declared.event.Happening.TheVariants as happenings
use Rattle.gs_msg.specs.declared.message.Message.{Message}
use Rattle.gs_msg.specs.declared.message.MsgId.{MsgId}
use Rattle.gs_msg.specs.declared.node.NodeId.{NodeId}
use Rattle.gs_msg.specs.declared.node.NodeId.TheVariants as ids
use Rattle.gs_msg.specs.declared.node.StoreNode.TheVariants as keepers
use Rattle.gs_nodes.specs.Happenings.{AtClient, AtServer, ClientAsks, ClientHears, Delivers, Hears, ServerDoes, client_in}
use Rattle.gs_nodes.specs.Nodes.{Nodes, with_clients, with_servers}
use Rattle.gs_nodes.specs.declared.place.MasterPlace.{MasterPlace}
use Rattle.gs_nodes.specs.declared.place.MasterPlace.TheVariants.{Standing, Closed, Away}
use Rattle.gs_server.specs.Servers.{Server, Step as ServerStep}
use Rattle.gs_server.specs.Servers as servers
use Rattle.gs_shell_desk.specs.Ways.{Way, way_of}
use Rattle.gs_shell_desk.specs.declared.desk.Desk.{Desk}
use Rattle.gs_world.specs.Histories.{AtNode, AtOne, Befalls, Begins, ComesTo, Happens, History, Tells, Upshot}
use Rattle.gs_world.specs.Runs.{Goes, Step, Comes, Takes}
use Rattle.gs_world.specs.Sent.{Sent, message_of}
use Rattle.gs_laws_chunks.specs.desks.Reached.{Covers, history}
use Rattle.gs_laws_scripts.specs.answers.Meeting.{HasMaster, IsMet, IsMetWay, IsPlain, Reaches, RunsSo}
use Rattle.gs_laws_scripts.specs.answers.Plain.{Plain, PlainDesk}
use Rattle.gs_laws_world.specs.lasting.Lasting.{failures_at}
use Rattle.gs_laws_world.specs.steady.Unarmed.{unarmed}
use Rattle.gs_laws_image.specs.Seen.{SeenDisk, bytes_seen, failures_seen, desk_seen, disks_seen, master_seen, nodes_seen, place_seen, way_seen}
use Rattle.gs_laws_image.proofs.Masters.{hears_seen, opens_seen, reopens_seen, ticks_seen}

-- ---- how often disks have failed, where a master stands

counted_from : (k l a b : ℕ) → (k + a) + (l + b) ≡ (k + l) + (a + b)
counted_from k l a b = omega arith

-- the disks aren't away
abbrev pub AreHere : {D : Type 0} → MasterPlace D → Type 0
AreHere (Standing m) = Unit {0}
AreHere (Closed first second) = Unit {0}
AreHere Away = ⊥

pub here : {D : Type 0} (nodes : Nodes D) → HasMaster nodes → AreHere nodes.master
here nodes (m, stands) = subst (λ p. AreHere p) (sym stands) tt

module _ {D : Type 0} (seen : D → List ℕ) (failures : D → ℕ) (counts : ℕ × ℕ) where
  abbrev the_place : MasterPlace D → MasterPlace SeenDisk
  the_place p = place_seen seen failures counts p

  abbrev the_nodes : Nodes D → Nodes SeenDisk
  the_nodes n = nodes_seen seen failures counts n

  abbrev the_way : Way D → Way SeenDisk
  the_way w = way_seen seen failures counts w

  abbrev the_history : History D → History SeenDisk
  the_history h = record { nodes = the_nodes h.nodes; sent = h.sent }

  pub often_seen : (p : MasterPlace D) → AreHere p → failures_at failures_seen (the_place p) ≡ (counts.0 + counts.1) + failures_at failures p
  often_seen (Standing m) is = counted_from counts.0 counts.1 (failures m.journal.first) (failures m.journal.second)
  often_seen (Closed first second) is = counted_from counts.0 counts.1 (failures first) (failures second)
  often_seen Away never = absurd never

  pub still_seen : (old new : MasterPlace D) → AreHere old → AreHere new → failures_at failures new ≡ failures_at failures old → failures_at failures_seen (the_place new) ≡ failures_at failures_seen (the_place old)
  still_seen old new was is same = often_seen new is ∙ ap (λ n. (counts.0 + counts.1) + n) same ∙ sym (often_seen old was)

  pub stands_seen : (nodes : Nodes D) → HasMaster nodes → HasMaster (the_nodes nodes)
  stands_seen nodes (m, stands) = (master_seen seen failures counts m, ap the_place stands)

  -- ---- at a node

  server_if : {A : Type 0} (o : Option Server) (id : ℕ) (does : Server → Result A Refusal → Server → Type 0) (old : Nodes D) (result : Result A Refusal) (new : Nodes D)
      → MatchOption o ((new ≡ old) × (result ≡ Err refusals.Range)) (λ s. (after : Server) × (new ≡ with_servers (slice_set old.servers id after) old) × does s result after)
      → MatchOption o ((the_nodes new ≡ the_nodes old) × (result ≡ Err refusals.Range)) (λ s. (after : Server) × (the_nodes new ≡ with_servers (slice_set old.servers id after) (the_nodes old)) × does s result after)
  server_if None id does old result new (same, range) = (ap the_nodes same, range)
  server_if (Some s) id does old result new (after, is, h) = (after, ap the_nodes is, h)

  pub server_seen : {A : Type 0} (id : ℕ) (does : Server → Result A Refusal → Server → Type 0) (old : Nodes D) (result : Result A Refusal) (new : Nodes D) → AtServer id does old result new
      → AtServer id does (the_nodes old) result (the_nodes new)
  server_seen id does old result new h = server_if (slice_get old.servers id) id does old result new h

  client_if : {A : Type 0} (o : Option Node) (id : ClientId) (none : A) (does : Node → A → Node → Type 0) (old : Nodes D) (result : A) (new : Nodes D)
      → MatchOption o ((new ≡ old) × (result ≡ none)) (λ n. (after : Node) × (new ≡ with_clients (slice_set old.clients (id.0 - 1) after) old) × does n result after)
      → MatchOption o ((the_nodes new ≡ the_nodes old) × (result ≡ none)) (λ n. (after : Node) × (the_nodes new ≡ with_clients (slice_set old.clients (id.0 - 1) after) (the_nodes old)) × does n result after)
  client_if None id none does old result new (same, is) = (ap the_nodes same, is)
  client_if (Some n) id none does old result new (after, is, h) = (after, ap the_nodes is, h)

  pub client_seen : {A : Type 0} (id : ClientId) (none : A) (does : Node → A → Node → Type 0) (old : Nodes D) (result : A) (new : Nodes D) → AtClient id none does old result new
      → AtClient id none does (the_nodes old) result (the_nodes new)
  client_seen id none does old result new h = client_if (client_in old.clients id) id none does old result new h

  to_seen : (message : Message) (moment : Moment) (to : NodeId) (old : Nodes D) (result : Result Told Refusal) (new : Nodes D) → Hears seen failures message moment to old result new
      → Hears bytes_seen failures_seen message moment to (the_nodes old) result (the_nodes new)
  to_seen message moment ids.Master old result new (place, is, h) = (the_place place, ap the_nodes is, hears_seen seen failures counts message moment old.master result place h)
  to_seen message moment (ids.Server id) old result new h = server_seen id (λ s. ServerDoes (servers.handle s message moment) s) old result new h
  to_seen message moment (ids.Client id) old result new (said, h, says) = (said, client_seen id None (ClientHears message.body) old said new h, says)

  pub delivers_seen : (message : Message) (moment : Moment) (old : Nodes D) (result : Result Told Refusal) (new : Nodes D) → Delivers seen failures message moment old result new
      → Delivers bytes_seen failures_seen message moment (the_nodes old) result (the_nodes new)
  unfolding Delivers
  delivers_seen message moment old result new h = to_seen message moment message.to old result new h

  -- ---- an event of a store

  comes_seen : (sender : NodeId) (message : Message) (moment : Moment) (old : Nodes D) (by : NodeId) (outcome : Upshot) (new : Nodes D) → ComesTo seen failures unarmed sender message moment old by outcome new
      → ComesTo bytes_seen failures_seen unarmed sender message moment (the_nodes old) by outcome (the_nodes new)
  comes_seen sender message moment old by outcome new (inl (is, turn, h, out)) = inl (is, turn, delivers_seen message moment old turn new h, out)
  comes_seen sender message moment old by outcome new (inr (memory, same, is)) = inr (memory, ap the_nodes same, is)

  message_if : (o : Option Message) (moment : Moment) (id : MsgId) (old : Nodes D) (by : NodeId) (outcome : Upshot) (new : Nodes D)
      → MatchOption o ((outcome ≡ Err refusals.Range) × (new ≡ old) × (by ≡ id.sender)) (λ message. ComesTo seen failures unarmed id.sender message moment old by outcome new)
      → MatchOption o ((outcome ≡ Err refusals.Range) × (the_nodes new ≡ the_nodes old) × (by ≡ id.sender)) (λ message. ComesTo bytes_seen failures_seen unarmed id.sender message moment (the_nodes old) by outcome (the_nodes new))
  message_if None moment id old by outcome new (range, same, is) = (range, ap the_nodes same, is)
  message_if (Some message) moment id old by outcome new h = comes_seen id.sender message moment old by outcome new h

  befalls_seen : (id : ℕ) (does : Server → Result (Unit {0}) Refusal → Server → Type 0) (old : Nodes D) (outcome : Upshot) (new : Nodes D) → Befalls id does old outcome new
      → Befalls id does (the_nodes old) outcome (the_nodes new)
  befalls_seen id does old outcome new (done, h, out) = (done, server_seen id does old done new h, out)

  one_seen : (id : ℕ) (step : Server → ServerStep) (old : Nodes D) (outcome : Upshot) (new : Nodes D) → AtOne id step old outcome new → AtOne id step (the_nodes old) outcome (the_nodes new)
  one_seen id step old outcome new (turn, h, out) = (turn, server_seen id (λ s. ServerDoes (step s) s) old turn new h, out)

  node_seen : (moment : Moment) (happening : Happening) (old : History D) (by : NodeId) (outcome : Upshot) (new : Nodes D) → AtNode seen failures unarmed moment happening old by outcome new
      → AtNode bytes_seen failures_seen unarmed moment happening (the_history old) by outcome (the_nodes new)
  node_seen moment (happenings.Ask req request) old by outcome new (is, (sent, h, out)) = (is, (sent, client_seen req.client (Err refusals.Range) (ClientAsks req.number request) old.nodes sent new h, out))
  node_seen moment (happenings.Deliver id) old by outcome new h = message_if (message_of old.sent id) moment id old.nodes by outcome new h
  node_seen moment (happenings.Tick keepers.Master) old by outcome new (is, (place, turn, h, same, out)) =
      (is, (the_place place, turn, ticks_seen seen failures counts moment old.nodes.master turn place h, ap the_nodes same, out))
  node_seen moment (happenings.Tick (keepers.Server id)) old by outcome new (is, h) = (is, one_seen id (λ s. servers.tick s moment) old.nodes outcome new h)
  node_seen moment (happenings.Beat id) old by outcome new (is, (same, out)) = (is, (ap the_nodes same, out))
  node_seen moment (happenings.Restart keepers.Master) old by outcome new (is, (place, turn, h, same, out)) =
      (is, (the_place place, turn, reopens_seen seen failures counts old.nodes.config old.nodes.master turn place h, ap the_nodes same, out))
  node_seen moment (happenings.Restart (keepers.Server id)) old by outcome new (is, h) = (is, befalls_seen id (λ s done after. (done ≡ Ok tt) × (after ≡ servers.restart s)) old.nodes outcome new h)
  node_seen moment (happenings.Lose id handle) old by outcome new (is, h) = (is, befalls_seen id (λ s done after. Does (servers.lose handle s) done s after) old.nodes outcome new h)
  node_seen moment (happenings.Damage id handle block) old by outcome new (is, h) = (is, befalls_seen id (λ s done after. Does (servers.damage handle block s) done s after) old.nodes outcome new h)
  node_seen moment (happenings.FailDisk disk call) old by outcome new (is, (same, out)) = (is, (ap the_nodes same, out))

  tells_seen : (moment : Moment) (by : NodeId) (outcome : Upshot) (old : Sent) (result : Result (Unit {0}) Refusal) (new : Sent) → Tells seen failures unarmed moment by outcome old result new
      → Tells bytes_seen failures_seen unarmed moment by outcome old result new
  tells_seen moment by (Ok (messages, said)) old result new h = h
  tells_seen moment by (Err refusal) old result new h = h

  happens_seen : (event : Event) (old : History D) (said : Result (Unit {0}) Refusal) (new : History D) → Happens seen failures unarmed event old said new
      → Happens bytes_seen failures_seen unarmed event (the_history old) said (the_history new)
  happens_seen event old said new h = record {
    by = h.by;
    outcome = h.outcome;
    at = node_seen event.moment event.happening old h.by h.outcome new.nodes h.at;
    tells = tells_seen event.moment h.by h.outcome old.sent said new.sent h.tells;
  }

  goes_seen : (step : Step) (old new : History D) → Goes seen failures unarmed step old new → Goes bytes_seen failures_seen unarmed step (the_history old) (the_history new)
  goes_seen (Comes event) old new (said, h) = (said, happens_seen event old said new h)
  goes_seen (Takes client) old new (found, h, same) = (found, client_seen client None (λ n reply after. (reply ≡ n.reply) × (after ≡ given_up n)) old.nodes found new.nodes h, same)

  -- ---- a desk to which lines have led

  module _ (config : Config) (disks : D × D) where
    runs_seen : (steps : List Step) (old new : History D) → HasMaster old.nodes → RunsSo seen failures config disks steps old new
        → RunsSo bytes_seen failures_seen config (disks_seen seen failures counts disks) steps (the_history old) (the_history new)
    runs_seen [] old new has same = ap the_history same
    runs_seen (step ∷ steps) old new has (mid, goes, so, still, stands, rest) = (
      the_history mid,
      goes_seen step old mid goes,
      so,
      still_seen old.nodes.master mid.nodes.master (here old.nodes has) (here mid.nodes stands) still,
      stands_seen mid.nodes stands,
      runs_seen steps mid new stands rest,
    )

    begins_seen : (begun : History D) → Begins seen failures unarmed config 1 disks begun → Begins bytes_seen failures_seen unarmed config 1 (disks_seen seen failures counts disks) (the_history begun)
    begins_seen begun b = record { place = the_place b.place; turn = b.turn; opens = opens_seen seen failures counts config disks (Ok b.turn) b.place b.opens; nodes = ap the_nodes b.nodes; sent = b.sent }

    begins_standing : (begun : History D) → Begins seen failures unarmed config 1 disks begun → HasMaster begun.nodes
    begins_standing begun b = (b.opens.0, ap (λ (n : Nodes D). n.master) b.nodes ∙ b.opens.1)

    met_seen : (now : History D) → IsMet seen failures config disks now → IsMet bytes_seen failures_seen config (disks_seen seen failures counts disks) (the_history now)
    met_seen now met = record {
      begun = the_history met.begun;
      steps = met.steps;
      begins = begins_seen met.begun met.begins;
      runs = runs_seen met.steps met.begun now (begins_standing met.begun met.begins) met.runs;
    }

    covers_seen : (sent : Sent) (w : Way D) → Covers sent w → Covers sent (the_way w)
    covers_seen sent w covers = record { queue = covers.queue; held = covers.held; servers = covers.servers; clients = covers.clients; short = covers.short }

    way_met : (w : Way D) → IsMetWay seen failures config disks w → IsMetWay bytes_seen failures_seen config (disks_seen seen failures counts disks) (the_way w)
    way_met w met = record { sent = met.sent; covers = covers_seen met.sent w met.covers; met = met_seen (history met.sent w) met.met; moment = met.moment }

    plain_seen : (w : Way D) (p : Plain) → IsPlain w p → IsPlain (the_way w) p
    plain_seen w p is = record { master = master_seen seen failures counts is.master; stands = record { place = ap the_place is.stands.place; config = is.stands.config }; plain = is.plain }

    pub reaches_seen : (desk : Desk D) (w : PlainDesk) → Reaches seen failures config disks desk w
        → Reaches bytes_seen failures_seen config (disks_seen seen failures counts disks) (desk_seen seen failures counts desk) w
    reaches_seen desk w r = record { client = r.client; ours = r.ours; plain = plain_seen (way_of desk.wire) w.1 r.plain; met = way_met (way_of desk.wire) r.met }
