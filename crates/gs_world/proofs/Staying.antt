-- There are as many nodes as before.
use Rattle.std.proofs.Common.{◌≡◌, ◌∙◌, ◌-◌, ℕ, zero, suc, List, [], ◌∷◌, Option, Some, None, MatchOption, Result, Ok, Err, refl, sym, ap, subst, inl, inr, length, slice_get, slice_set}
use Rattle.gs_base.specs.declared.numbers.ClientId.{ClientId}
use Rattle.gs_base.specs.declared.numbers.Moment.{Moment}
use Rattle.gs_base.specs.declared.refusal.Refusal.{Refusal}
use Rattle.gs_base.specs.declared.refusal.Refusal.TheVariants as refusals
use Rattle.gs_base.specs.Calls.{Does}
use Rattle.gs_client.specs.Nodes.{Node, given_up}
use Rattle.gs_master.specs.declared.turn.Turn.{Turn}
use Rattle.gs_msg.specs.declared.event.DiskId.{DiskId}
use Rattle.gs_msg.specs.declared.event.Happening.{Happening}
use Rattle.gs_msg.specs.declared.event.Happening.TheVariants as happenings
use Rattle.gs_msg.specs.declared.message.Message.{Message}
use Rattle.gs_msg.specs.declared.node.NodeId.{NodeId}
use Rattle.gs_msg.specs.declared.node.NodeId.TheVariants as nodes
use Rattle.gs_msg.specs.declared.node.StoreNode.{StoreNode}
use Rattle.gs_msg.specs.declared.node.StoreNode.TheVariants as keepers
use Rattle.gs_server.specs.Servers.{Server}
use Rattle.gs_server.specs.Servers as servers
use Rattle.gs_nodes.specs.Happenings.{AtClient, AtServer, ClientAsks, ClientHears, Delivers, Hears, ServerDoes, client_in}
use Rattle.gs_nodes.specs.Nodes.{Nodes, with_clients, with_master, with_servers}
use Rattle.gs_nodes.specs.declared.place.MasterPlace.{MasterPlace}
use Rattle.gs_world.specs.Histories.{AtNode, ComesTo, History, Upshot, Restarts, Ticks}
use Rattle.gs_world.specs.Runs.{Goes, RunsTo, SameNodes, Step, Comes, Takes}
use Rattle.gs_world.specs.Sent.{message_of}

set_long : {A : Type 0} (xs : List A) (i : ℕ) (x : A) → length (slice_set xs i x) ≡ length xs
set_long [] i x = refl
set_long (y ∷ xs) zero x = refl
set_long (y ∷ xs) (suc i) x = ap suc (set_long xs i x)

pub same : {D : Type 0} (old new : Nodes D) → new ≡ old → SameNodes old new
same {D} old new is = record { config = ap (λ (n : Nodes D). n.config) is; servers = ap (λ (n : Nodes D). length n.servers) is; clients = ap (λ (n : Nodes D). length n.clients) is }

pub chained : {D : Type 0} (old mid new : Nodes D) → SameNodes old mid → SameNodes mid new → SameNodes old new
chained old mid new first second = record { config = second.config ∙ first.config; servers = second.servers ∙ first.servers; clients = second.clients ∙ first.clients }

-- ---- at one node

at_found : {A D : Type 0} (found : Option Server) (id : ℕ) (does : Server → Result A Refusal → Server → Type 0) (old : Nodes D) (result : Result A Refusal) (new : Nodes D)
    → MatchOption found ((new ≡ old) × (result ≡ Err refusals.Range)) (λ s. (after : Server) × (new ≡ with_servers (slice_set old.servers id after) old) × does s result after)
    → SameNodes old new
at_found None id does old result new (is, refused) = same old new is
at_found (Some s) id does old result new (after, is, done) =
    subst (λ n. SameNodes old n) (sym is) (record { config = refl; servers = set_long old.servers id after; clients = refl })

pub at_server : {A D : Type 0} (id : ℕ) (does : Server → Result A Refusal → Server → Type 0) (old : Nodes D) (result : Result A Refusal) (new : Nodes D)
    → AtServer id does old result new → SameNodes old new
at_server id does old result new at = at_found (slice_get old.servers id) id does old result new at

at_known : {A D : Type 0} (found : Option Node) (id : ClientId) (none : A) (does : Node → A → Node → Type 0) (old : Nodes D) (result : A) (new : Nodes D)
    → MatchOption found ((new ≡ old) × (result ≡ none)) (λ n. (after : Node) × (new ≡ with_clients (slice_set old.clients (id.0 - 1) after) old) × does n result after)
    → SameNodes old new
at_known None id none does old result new (is, refused) = same old new is
at_known (Some n) id none does old result new (after, is, done) =
    subst (λ n. SameNodes old n) (sym is) (record { config = refl; servers = refl; clients = set_long old.clients (id.0 - 1) after })

pub at_client : {A D : Type 0} (id : ClientId) (none : A) (does : Node → A → Node → Type 0) (old : Nodes D) (result : A) (new : Nodes D)
    → AtClient id none does old result new → SameNodes old new
at_client id none does old result new at = at_known (client_in old.clients id) id none does old result new at

pub at_master : {D : Type 0} (place : MasterPlace D) (old new : Nodes D) → new ≡ with_master place old → SameNodes old new
at_master place old new is = subst (λ n. SameNodes old n) (sym is) (record { config = refl; servers = refl; clients = refl })

-- ---- a message that comes

heard : {D : Type 0} (seen : D → List ℕ) (failures : D → ℕ) (message : Message) (moment : Moment) (to : NodeId) (old : Nodes D) (turn : Result Turn Refusal) (new : Nodes D)
    → Hears seen failures message moment to old turn new → SameNodes old new
heard seen failures message moment nodes.Master old turn new (place, is, hears) = at_master place old new is
heard seen failures message moment (nodes.Server id) old turn new at = at_server id (λ s. ServerDoes (servers.handle s message moment) s) old turn new at
heard seen failures message moment (nodes.Client id) old turn new (said, at, says) = at_client id None (ClientHears message.body) old said new at

delivered : {D : Type 0} (seen : D → List ℕ) (failures : D → ℕ) (message : Message) (moment : Moment) (old : Nodes D) (turn : Result Turn Refusal) (new : Nodes D)
    → Delivers seen failures message moment old turn new → SameNodes old new
unfolding Delivers
delivered seen failures message moment old turn new hears = heard seen failures message moment message.to old turn new hears

module _ {D : Type 0} (seen : D → List ℕ) (failures : D → ℕ) (armed : DiskId → ℕ → MasterPlace D → MasterPlace D) where
  came : (found : Option Message) (sender : NodeId) (moment : Moment) (old : Nodes D) (by : NodeId) (outcome : Upshot) (new : Nodes D)
      → MatchOption found ((outcome ≡ Err refusals.Range) × (new ≡ old) × (by ≡ sender)) (λ message. ComesTo seen failures armed sender message moment old by outcome new) → SameNodes old new
  came None sender moment old by outcome new (refused, is, from) = same old new is
  came (Some message) sender moment old by outcome new comes = elim comes [
    | inl (is, turn, delivers, told) ↦ delivered seen failures message moment old turn new delivers
    | inr (refused, is, from) ↦ same old new is
  ]

  ticked : (moment : Moment) (node : StoreNode) (old : Nodes D) (outcome : Upshot) (new : Nodes D) → Ticks seen failures armed moment node old outcome new → SameNodes old new
  ticked moment keepers.Master old outcome new (place, turn, does, is, told) = at_master place old new is
  ticked moment (keepers.Server id) old outcome new (turn, at, told) = at_server id (λ s. ServerDoes (servers.tick s moment) s) old turn new at

  restarted : (node : StoreNode) (old : Nodes D) (outcome : Upshot) (new : Nodes D) → Restarts seen failures armed node old outcome new → SameNodes old new
  restarted keepers.Master old outcome new (place, turn, does, is, told) = at_master place old new is
  restarted (keepers.Server id) old outcome new (done, at, told) = at_server id (λ s done after. (done ≡ Ok tt) × (after ≡ servers.restart s)) old done new at

  pub at_node : (moment : Moment) (happening : Happening) (old : History D) (by : NodeId) (outcome : Upshot) (new : Nodes D)
      → AtNode seen failures armed moment happening old by outcome new → SameNodes old.nodes new
  at_node moment (happenings.Ask req request) old by outcome new (is, (out, at, told)) = at_client req.client (Err refusals.Range) (ClientAsks req.number request) old.nodes out new at
  at_node moment (happenings.Deliver id) old by outcome new comes = came (message_of old.sent id) id.sender moment old.nodes by outcome new comes
  at_node moment (happenings.Tick node) old by outcome new (is, ticks) = ticked moment node old.nodes outcome new ticks
  at_node moment (happenings.Beat id) old by outcome new (is, (still, told)) = same old.nodes new still
  at_node moment (happenings.Restart node) old by outcome new (is, restarts) = restarted node old.nodes outcome new restarts
  at_node moment (happenings.Lose id handle) old by outcome new (is, (done, at, told)) = at_server id (λ s done after. Does (servers.lose handle s) done s after) old.nodes done new at
  at_node moment (happenings.Damage id handle block) old by outcome new (is, (done, at, told)) = at_server id (λ s done after. Does (servers.damage handle block s) done s after) old.nodes done new at
  at_node moment (happenings.FailDisk disk call) old by outcome new (is, (with, told)) = at_master (armed disk call old.nodes.master) old.nodes new with

  pub step_same : (step : Step) (old new : History D) → Goes seen failures armed step old new → SameNodes old.nodes new.nodes
  step_same (Comes event) old new (said, h) = at_node event.moment event.happening old h.by h.outcome new.nodes h.at
  step_same (Takes client) old new (found, takes, is) = at_client client None (λ n reply after. (reply ≡ n.reply) × (after ≡ given_up n)) old.nodes found new.nodes takes

  pub run_same : (steps : List Step) (old new : History D) → RunsTo seen failures armed steps old new → SameNodes old.nodes new.nodes
  run_same [] old new is = same old.nodes new.nodes (ap (λ (h : History D). h.nodes) is)
  run_same (step ∷ steps) old new (mid, first, rest) = chained old.nodes mid.nodes new.nodes (step_same step old mid first) (run_same steps mid new rest)
