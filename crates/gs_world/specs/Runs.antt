-- What becomes of a store over many events.
use Rattle.std.specs.Prelude.{◌≡◌, ℕ, List, [], ◌∷◌, Option, Some, None, Result, map, option_map, slice_get, length}
use Rattle.std.specs.List.{AllByRecursion}
use Rattle.gs_base.specs.declared.config.Config.{Config}
use Rattle.gs_base.specs.declared.numbers.ClientId.{ClientId}
use Rattle.gs_base.specs.declared.refusal.Refusal.{Refusal}
use Rattle.gs_client.specs.Nodes.{given_up}
use Rattle.gs_client.specs.declared.link.Reply.{Reply}
use Rattle.gs_msg.specs.declared.event.DiskId.{DiskId}
use Rattle.gs_msg.specs.declared.event.Event.{Event}
use Rattle.gs_msg.specs.declared.message.Message.{Message}
use Rattle.gs_msg.specs.declared.message.MsgId.{MsgId}
use Rattle.gs_msg.specs.declared.node.NodeId.TheVariants as nodes
use Rattle.gs_server.specs.Runs as at_server
use Rattle.gs_server.specs.Runs.{behind_all}
use Rattle.gs_nodes.specs.Happenings.{AtClient}
use Rattle.gs_nodes.specs.Nodes.{Nodes}
use Rattle.gs_nodes.specs.declared.place.MasterPlace.{MasterPlace}
use Rattle.gs_world.specs.Histories.{Begins, Happens, History, IsOutcome}
use Rattle.gs_world.specs.declared.outcome.Outcome.{Outcome}
use Rattle.gs_world.specs.Sent.{IsSent, Sent, message_of}

-- an event, or a client's answer is taken out
pub data Step : Type 0 where
  Comes : Event → Step
  Takes : ClientId → Step

abbrev pub all_come : List Event → List Step
all_come events = map (λ (event : Event). Comes event) events

-- what was said at each of some events
abbrev pub all_said : List Outcome → List (Result (Unit {0}) Refusal)
all_said outcomes = map (λ (outcome : Outcome). outcome.said) outcomes

-- what has come back to a client is taken out
abbrev pub TakesReply : {D : Type 0} → ClientId → Nodes D → Option Reply → Nodes D → Type 0
TakesReply client old found new = AtClient client None (λ n reply after. (reply ≡ n.reply) × (after ≡ given_up n)) old found new

module _ {D : Type 0} (seen : D → List ℕ) (failures : D → ℕ) (armed : DiskId → ℕ → MasterPlace D → MasterPlace D) where
  abbrev pub Goes : Step → History D → History D → Type 0
  Goes (Comes event) old new = (said : Result (Unit {0}) Refusal) × Happens seen failures armed event old said new
  Goes (Takes client) old new = (found : Option Reply) × TakesReply client old.nodes found new.nodes × (new.sent ≡ old.sent)

  -- one after the other
  abbrev pub RunsTo : List Step → History D → History D → Type 0
  RunsTo [] old new = new ≡ old
  RunsTo (step ∷ steps) old new = (mid : History D) × Goes step old mid × RunsTo steps mid new

  -- events, each with what it said
  abbrev pub HappensAll : List Event → List (Result (Unit {0}) Refusal) → History D → History D → Type 0
  HappensAll [] said old new = (said ≡ []) × (new ≡ old)
  HappensAll (event ∷ events) said old new =
      (one : Result (Unit {0}) Refusal) × (others : List (Result (Unit {0}) Refusal)) × (mid : History D)
      × (said ≡ one ∷ others) × Happens seen failures armed event old one mid × HappensAll events others mid new

  -- events, each with what is told of it
  abbrev pub AreOutcomes : List Event → List Outcome → History D → History D → Type 0
  AreOutcomes [] outcomes old new = (outcomes ≡ []) × (new ≡ old)
  AreOutcomes (event ∷ events) outcomes old new =
      (one : Outcome) × (others : List Outcome) × (mid : History D)
      × (outcomes ≡ one ∷ others) × IsOutcome seen failures armed event old one mid × AreOutcomes events others mid new

  -- a store that has begun over these disks, behind some steps
  pub record IsReached (config : Config) (clients : ℕ) (disks : D × D) (now : History D) : Type 0 where
    pub begun : History D
    pub steps : List Step
    pub begins : Begins seen failures armed config clients disks begun
    pub runs : RunsTo steps begun now

-- ---- what is to hold

-- what a server hears was sent, and to it
abbrev pub WasSent : ℕ → Sent → at_server.Event → Type 0
WasSent id sent (at_server.Hears message moment) = (message.to ≡ nodes.Server id) × IsSent message sent
WasSent id sent event = Unit {0}

-- A server goes on by events of its own, and each message among them was sent to it.
pub record GoesOn {D : Type 0} (id : ℕ) (old new : History D) : Type 0 where
  pub events : List at_server.Event
  pub behind : slice_get new.nodes.servers id ≡ option_map (behind_all events) (slice_get old.nodes.servers id)
  pub heard : AllByRecursion (WasSent id new.sent) events

-- what was sent stays sent, at its place
abbrev pub StaySent : Sent → Sent → Type 0
StaySent old new = (id : MsgId) (message : Message) → message_of old id ≡ Some message → message_of new id ≡ Some message

-- there are as many nodes as before, of the same configuration
pub record SameNodes {D : Type 0} (old new : Nodes D) : Type 0 where
  pub config : new.config ≡ old.config
  pub servers : length new.servers ≡ length old.servers
  pub clients : length new.clients ≡ length old.clients
