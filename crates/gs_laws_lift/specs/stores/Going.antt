-- What a step of a store is: something at one server, at the master, or elsewhere; and what that node sends.
use Rattle.std.specs.Prelude.{◌≡◌, ◌⊎◌, ℕ, List, [], ◌∷◌, Option, Some, None, Ok, Err, slice_get, slice_set}
use Rattle.gs_base.specs.declared.config.Config.{Config}
use Rattle.gs_base.specs.declared.numbers.Moment.{Moment}
use Rattle.gs_base.specs.declared.refusal.Refusal.{Refusal}
use Rattle.gs_base.specs.Told.{IsNumber}
use Rattle.gs_laws_master.specs.Standing.{IsNamedBody}
use Rattle.gs_master.specs.declared.turn.Turn.{Turn}
use Rattle.gs_msg.specs.declared.event.DiskId.{DiskId}
use Rattle.gs_msg.specs.declared.event.Happening.{Happening}
use Rattle.gs_msg.specs.declared.event.Happening.TheVariants as happenings
use Rattle.gs_msg.specs.declared.message.Message.{Message}
use Rattle.gs_msg.specs.declared.message.MsgId.{MsgId}
use Rattle.gs_msg.specs.declared.node.NodeId.{NodeId}
use Rattle.gs_msg.specs.declared.node.StoreNode.TheVariants as keepers
use Rattle.gs_msg.specs.declared.node.NodeId.TheVariants as ids
use Rattle.gs_laws_parts.specs.server.Causes.{Calm, Cause, cause_by}
use Rattle.gs_server.specs.Runs as at_server
use Rattle.gs_server.specs.Servers.{Server}
use Rattle.gs_server.specs.Servers as servers
use Rattle.gs_nodes.specs.Happenings.{MasterHears, MasterTicks, Reopens}
use Rattle.gs_nodes.specs.declared.place.MasterPlace.{MasterPlace}
use Rattle.gs_world.specs.Histories.{History}
use Rattle.gs_world.specs.Runs.{Comes, Step}
use Rattle.gs_world.specs.Sent.{IsPosted, IsSent, Sent, message_of}
use Rattle.gs_laws_parts.specs.server.Answering.{handle_in}
use Rattle.gs_laws_lift.specs.stores.Saying.{AreOfClient}

-- all that was sent, and stands still
abbrev pub AllSent : (Message → Type 0) → Sent → Type 0
AllSent P sent = (id : MsgId) (message : Message) → message_of sent id ≡ Some message → P message

-- these are sent, but for those for which memory is wanting; or none is
abbrev pub Posts : Moment → NodeId → List Message → Sent → Sent → Type 0
Posts moment by messages old new = IsPosted moment by messages old new ⊎ (new ≡ old)

-- ---- a server

-- What happens at a server makes this of it, and it sends these.
pub data ServerGoes (sent : Sent) (id : ℕ) (s after : Server) (messages : List Message) : Type 0 where
  Hears : (message : Message) (moment : Moment) → IsSent message sent → message.to ≡ ids.Server id → after ≡ (servers.handle s message moment).after → messages ≡ (servers.handle s message moment).sent → ServerGoes sent id s after messages
  Ticks : (moment : Moment) → after ≡ (servers.tick s moment).after → messages ≡ (servers.tick s moment).sent → ServerGoes sent id s after messages
  Beats : after ≡ s → messages ≡ servers.beat s ∷ [] → ServerGoes sent id s after messages
  Restarts : after ≡ servers.restart s → messages ≡ [] → ServerGoes sent id s after messages
  Loses : (handle : ℕ) → after ≡ at_server.behind (at_server.Loses handle) s → messages ≡ [] → ServerGoes sent id s after messages
  Damages : (handle block : ℕ) → after ≡ at_server.behind (at_server.Damages handle block) s → messages ≡ [] → ServerGoes sent id s after messages

-- the chunk that it hears about, if it does
abbrev pub about_of : {sent : Sent} {id : ℕ} {s after : Server} {messages : List Message} → ServerGoes sent id s after messages → Option ℕ
about_of (Hears message moment was to is sends) = handle_in message.body
about_of goes = None

-- why something happens to a chunk at it
abbrev pub cause_at : {sent : Sent} {id : ℕ} {s after : Server} {messages : List Message} (chunk : ℕ) → ServerGoes sent id s after messages → Cause
cause_at {sent} {id} {s} chunk (Hears message moment was to is sends) = cause_by chunk (at_server.Hears message moment) s
cause_at {sent} {id} {s} chunk (Loses handle is sends) = cause_by chunk (at_server.Loses handle) s
cause_at {sent} {id} {s} chunk (Damages handle block is sends) = cause_by chunk (at_server.Damages handle block) s
cause_at {sent} {id} {s} chunk (Ticks moment is sends) = cause_by chunk (at_server.Ticks moment) s
cause_at {sent} {id} {s} chunk (Beats is sends) = Calm
cause_at {sent} {id} {s} chunk (Restarts is sends) = cause_by chunk at_server.Restarts s

-- this event comes, at some moment
abbrev pub ComesAs : Step → Happening → Type 0
ComesAs step happening = (moment : Moment) × (step ≡ Comes (record { moment = moment; happening = happening }))

-- what happens at a server is what the step is, and it comes to that server
abbrev pub IsMet : {sent : Sent} {id : ℕ} {s after : Server} {messages : List Message} → Step → ServerGoes sent id s after messages → Type 0
IsMet {sent} step (Hears message moment was to is sends) = (at : MsgId) × (message_of sent at ≡ Some message) × (step ≡ Comes (record { moment = moment; happening = happenings.Deliver at }))
IsMet {sent} {id} step (Ticks moment is sends) = ComesAs step (happenings.Tick (keepers.Server id))
IsMet {sent} {id} step (Beats is sends) = ComesAs step (happenings.Beat id)
IsMet {sent} {id} step (Restarts is sends) = ComesAs step (happenings.Restart (keepers.Server id))
IsMet {sent} {id} step (Loses handle is sends) = ComesAs step (happenings.Lose id handle)
IsMet {sent} {id} step (Damages handle block is sends) = ComesAs step (happenings.Damage id handle block)

-- ---- the master

-- What happens at the master makes this of where it is, and it sends these.
module _ {D : Type 0} (seen : D → List ℕ) (failures : D → ℕ) (armed : DiskId → ℕ → MasterPlace D → MasterPlace D) where
  pub data MasterGoes (config : Config) (sent : Sent) (old new : MasterPlace D) (messages : List Message) : Type 0 where
    MasterHeard : (message : Message) (moment : Moment) (turn : Turn) → IsSent message sent → message.to ≡ ids.Master → IsNamedBody message.body × IsNumber moment.0 → MasterHears seen failures message moment old (Ok turn) new → messages ≡ turn.sent.items → MasterGoes config sent old new messages
    MasterTicked : (moment : Moment) (turn : Turn) → MasterTicks seen failures moment old (Ok turn) new → messages ≡ turn.sent.items → MasterGoes config sent old new messages
    MasterOpened : (turn : Turn) → Reopens seen failures config old (Ok turn) new → messages ≡ turn.sent.items → MasterGoes config sent old new messages
    MasterUnopened : (refusal : Refusal) → Reopens seen failures config old (Err refusal) new → messages ≡ [] → MasterGoes config sent old new messages
    MasterArmed : (disk : DiskId) (call : ℕ) → new ≡ armed disk call old → messages ≡ [] → MasterGoes config sent old new messages

  -- ---- a step

  pub data Kind (step : Step) (old new : History D) : Type 0 where
    OfServer : (id : ℕ) (s after : Server) (messages : List Message) (moment : Moment) → slice_get old.nodes.servers id ≡ Some s → (goes : ServerGoes old.sent id s after messages) → IsMet step goes
        → new.nodes.servers ≡ slice_set old.nodes.servers id after → new.nodes.master ≡ old.nodes.master → Posts moment (ids.Server id) messages old.sent new.sent → Kind step old new
    OfMaster : (place : MasterPlace D) (messages : List Message) (moment : Moment) → MasterGoes old.nodes.config old.sent old.nodes.master place messages
        → new.nodes.servers ≡ old.nodes.servers → new.nodes.master ≡ place → Posts moment ids.Master messages old.sent new.sent → Kind step old new
    Elsewhere : (by : NodeId) (messages : List Message) (moment : Moment) → AreOfClient messages
        → new.nodes.servers ≡ old.nodes.servers → new.nodes.master ≡ old.nodes.master → Posts moment by messages old.sent new.sent → Kind step old new

  -- the chunk that a server hears about at a step, if it is such a step
  abbrev pub heard_in : {step : Step} {old new : History D} → Kind step old new → Option ℕ
  heard_in (OfServer id s after messages moment found goes met servers master posted) = about_of goes
  heard_in (OfMaster place messages moment goes servers master posted) = None
  heard_in (Elsewhere by messages moment are servers master posted) = None
