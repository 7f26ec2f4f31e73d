-- How the machine of one chunk goes on at a step of a store, and by what: by what happens at one server, by what the master does, or not at all.
use Rattle.std.specs.Prelude.{◌≡◌, ℕ, List, Option, Some, None, slice_get, slice_set}
use Rattle.std.specs.List.{AllByRecursion}
use Rattle.gs_base.specs.declared.config.Config.{Config}
use Rattle.gs_base.specs.declared.numbers.Moment.{Moment}
use Rattle.gs_base.specs.declared.numbers.ReqId.{ReqId}
use Rattle.gs_laws_master.specs.Promises.{IsKept}
use Rattle.gs_msg.specs.declared.message.Message.{Message}
use Rattle.gs_msg.specs.declared.node.NodeId.{NodeId}
use Rattle.gs_msg.specs.declared.node.NodeId.TheVariants as ids
use Rattle.gs_server.specs.Servers.{Server}
use Rattle.gs_master_spec.specs.Durable.{Durable}
use Rattle.gs_world.specs.Histories.{History}
use Rattle.gs_laws_chunk.specs.machine.Machine.{ChunkWorld}
use Rattle.gs_laws_chunk.specs.machine.Events.{Leads}
use Rattle.gs_laws_chunk.specs.machine.Mastering.{AreOfMaster}
use Rattle.gs_laws_parts.specs.server.Moving.{IsSteps}
use Rattle.gs_laws_parts.specs.master.Rows.{AreCopiedSince, RowsGo}
use Rattle.gs_laws_parts.specs.master.Showing.{ShowsDurable}
use Rattle.gs_laws_parts.specs.master.Telling.{Marks}
use Rattle.gs_laws_parts.specs.master.Telling as entry
use Rattle.gs_laws_lift.specs.stores.Doing.{HasDurable}
use Rattle.gs_world.specs.Runs.{Step}
use Rattle.gs_laws_lift.specs.stores.Going.{IsMet, Posts, ServerGoes, about_of, cause_at}
use Rattle.gs_laws_lift.specs.stores.Copying.{MakesOther}
use Rattle.gs_laws_lift.specs.stores.Saying.{AreOfClient}
use Rattle.gs_laws_lift.specs.stores.Showing.{ShowsStore, setting, whole_in}

module _ {D : Type 0} (seen : D → List ℕ) (config : Config) (bytes : ReqId → List ℕ) (born chunk : ℕ) (step : Step) (old new : History D) (w v : ChunkWorld) where
  -- One server does something: its events lead on. All other servers are as they were, and so is the master.
  pub record ByServer : Type 0 where
    pub id : ℕ
    pub server : Server
    pub after : Server
    pub messages : List Message
    pub moment : Moment
    pub found : slice_get old.nodes.servers id ≡ Some server
    pub goes : ServerGoes old.sent id server after messages
    pub met : IsMet step goes
    pub servers : new.nodes.servers ≡ slice_set old.nodes.servers id after
    pub master : new.nodes.master ≡ old.nodes.master
    pub posted : Posts moment (ids.Server id) messages old.sent new.sent
    pub steps : IsSteps (cause_at chunk goes) (setting config bytes born) chunk w id (about_of goes) after messages
    pub world : v ≡ steps.world

  -- The master does something: events of its part lead on, from where its records told one thing to where they tell another, and the rows of the chunk go along. What is
  -- sent to copy the chunk copies a view that stood before or was settled now; and the chunk is made no more. Each server is as it was.
  pub record ByMaster : Type 0 where
    pub before : Durable
    pub behind : Durable
    pub had : HasDurable seen old.nodes.master before
    pub has : HasDurable seen new.nodes.master behind
    pub shown : ShowsDurable chunk before w.entry
    pub shows : ShowsDurable chunk behind v.entry
    pub leads : Leads w v
    pub masters : AreOfMaster w v leads
    pub members : (j : ℕ) → entry.IsSameMember (w.members j) (whole_in behind chunk old.nodes.servers j) (v.members j)
    pub marks : Marks (whole_in behind chunk old.nodes.servers) w v
    pub servers : new.nodes.servers ≡ old.nodes.servers
    pub kept : IsKept behind
    pub rows : RowsGo chunk before behind w v
    pub messages : List Message
    pub copies : AreCopiedSince chunk behind w.known.view w.entry.is_known v messages
    pub others : AllByRecursion (λ (m : Message). MakesOther chunk m.body) messages
    pub moment : Moment
    pub posted : Posts moment ids.Master messages old.sent new.sent

  pub data GoesBy : Type 0 where
    AtServer : ByServer → GoesBy
    AtMaster : ByMaster → GoesBy
    -- a client asks, or takes an answer out
    Elsewhere : v ≡ w → new.nodes.servers ≡ old.nodes.servers → new.nodes.master ≡ old.nodes.master → (by : NodeId) (messages : List Message) (moment : Moment) → AreOfClient messages → Posts moment by messages old.sent new.sent → GoesBy

  -- the chunk that a server hears about then, if one does
  abbrev pub heard_by : GoesBy → Option ℕ
  heard_by (AtServer by) = about_of by.goes
  heard_by (AtMaster by) = None
  heard_by (Elsewhere still servers master by messages moment are posted) = None

module _ {D : Type 0} (seen : D → List ℕ) (config : Config) (bytes : ReqId → List ℕ) where
  -- The machine has gone on, by that, to where the store is shown, where a server hears about this chunk, if one does.
  pub record GoesTo (born chunk : ℕ) (step : Step) (about : Option ℕ) (old : History D) (w : ChunkWorld) (new : History D) : Type 0 where
    pub world : ChunkWorld
    pub leads : Leads w world
    pub shows : ShowsStore seen config bytes born chunk new world
    pub by : GoesBy seen config bytes born chunk step old new w world
    pub heard : heard_by seen config bytes born chunk step old new w world by ≡ about
