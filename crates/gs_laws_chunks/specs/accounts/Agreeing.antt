-- How an account agrees with the machine of a chunk, and that it goes on so.
use Rattle.std.specs.Prelude.{◌≡◌, ◌⊎◌, ◌<◌, ◌≤◌, ℕ, false, List, [], None, Some, slice_get, true}
use Rattle.std.specs.FinMap as fin
use Rattle.gs_base.specs.declared.config.Config.{Config}
use Rattle.gs_base.specs.declared.numbers.ReqId.{ReqId}
use Rattle.gs_base.specs.declared.numbers.Stamp.{Stamp}
use Rattle.gs_laws_chunks.specs.accounts.Accounts.{Account}
use Rattle.gs_laws_chunks.specs.accounts.Moving.{account_behind}
use Rattle.gs_laws_lift.specs.stores.Copying.{copied_from}
use Rattle.gs_laws_chunk.specs.machine.Events.{Leads}
use Rattle.gs_laws_chunk.specs.machine.Laws.{Birth, IsReached, IsUpgrading, prepared_list, world_of}
use Rattle.gs_laws_chunk.specs.machine.Machine.{ChunkWorld}
use Rattle.gs_laws_chunk.specs.machine.Stamps.{stamp_at}
use Rattle.gs_laws_chunk.specs.machine.Mastering.{AreOfMaster}
use Rattle.gs_base.specs.declared.numbers.Moment.{Moment}
use Rattle.gs_laws_parts.specs.master.Rows.{AreCopiedSince, IsFirst, RowsGo}
use Rattle.gs_laws_lift.specs.stores.Going.{AllSent, IsMet, Posts}
use Rattle.gs_laws_lift.specs.stores.Saying.{AreOfClient}
use Rattle.gs_msg.specs.declared.body.Body.{Body}
use Rattle.gs_msg.specs.declared.body.Body.TheVariants as bodies
use Rattle.gs_msg.specs.declared.message.Message.{Message}
use Rattle.gs_msg.specs.declared.node.NodeId.{NodeId}
use Rattle.gs_msg.specs.declared.node.NodeId.TheVariants as nodes
use Rattle.gs_laws_parts.specs.master.Showing.{ShowsDurable}
use Rattle.gs_laws_lift.specs.stores.Accounts.{CountsShow, Lists, ListsShow, edits_copied}
use Rattle.gs_laws_lift.specs.stores.Joint.{ByMaster, ByServer}
use Rattle.gs_laws_lift.specs.stores.Showing.{Keeps, ShowsNodes}
use Rattle.gs_replica.specs.Stands.{Edit}
use Rattle.gs_world.specs.Histories.{History}
use Rattle.gs_world.specs.Runs.{Step}
use Rattle.gs_world.specs.Sent.{Sent}
use Rattle.gs_server.specs.Runs.{slot_in}
use Rattle.gs_server.specs.Servers.{Server}
use Rattle.gs_master_spec.specs.Durable.{Durable, Settled, is_rolling}

-- what an account has under a stamp is the list of a view that stood behind the birth, or nothing
abbrev pub IsOfView : (Stamp → List Edit) → ChunkWorld → Stamp → Type 0
IsOfView list w stamp = (list stamp ≡ []) ⊎ ((t : ℕ) × (stamp ≡ stamp_at t) × (w.known.born < t) × (w.known.stood t ≡ true) × (list stamp ≡ w.known.list t))

-- A copy of the chunk is asked for under a view in which nobody may number; and the account has of that view what the machine has.
pub record IsCopyShown (list : Stamp → List Edit) (w : ChunkWorld) (at : Stamp) : Type 0 where
  pub t : ℕ
  pub is : at ≡ stamp_at t
  pub within : t ≤ w.known.view
  pub free : w.known.holder t ≡ None
  pub same : list at ≡ w.known.list t

-- so it is of what a server is told
abbrev pub CopyShows : ℕ → (Stamp → List Edit) → ChunkWorld → NodeId → Body → Type 0
CopyShows chunk list w (nodes.Server me) (bodies.MakeCopy old at new stamp) = old ≡ chunk → IsCopyShown list w at
CopyShows chunk list w to body = Unit {0}

-- no server is told to copy the chunk
abbrev pub CopiesNone : ℕ → NodeId → Body → Type 0
CopiesNone chunk (nodes.Server me) (bodies.MakeCopy old at new stamp) = old ≡ chunk → ⊥
CopiesNone chunk to body = Unit {0}

-- The view that is settled is one that stood, and the account has of it what the machine has.
pub record IsViewShown (list : Stamp → List Edit) (w : ChunkWorld) : Type 0 where
  pub stood : w.known.stood w.known.view ≡ true
  pub same : list (stamp_at w.known.view) ≡ w.known.list w.known.view

-- The lists of the account are those of the machine, and its counts; and while an upgrade stands, or is being rolled back, what it has of the prepare is the
-- prepared list, of a chunk that was known then. A view that the records tell is one behind the birth, and is shown; and one that is known and of which they tell none was settled on none. So
-- it is of what was copied of the chunk.
pub record Agrees (a : Account) (sent : Sent) (chunk : ℕ) (b : Birth) (w : ChunkWorld) : Type 0 where
  pub lists : ListsShow a.list (copied_from sent chunk) chunk b w
  pub others : (stamp : Stamp) → IsOfView (a.list chunk) w stamp
  pub counts : CountsShow a.reached chunk w
  pub before : (e : ℕ) → IsUpgrading w e → w.entry.was_known ≡ true → a.before chunk ≡ prepared_list w
  pub late : (x : Settled) → fin.get a.durable.chunks chunk ≡ Some x → w.known.born < w.known.view
  pub shown : (x : Settled) → fin.get a.durable.chunks chunk ≡ Some x → IsViewShown (a.list chunk) w
  pub first : IsFirst chunk a.durable w
  pub copied : AllSent (λ (m : Message). CopyShows chunk (a.list chunk) w m.to m.body) sent

-- it began with the edits that it is a copy of, if it is one
abbrev pub OriginShows : Lists → Sent → ℕ → Birth → ChunkWorld → Type 0
OriginShows list sent chunk b w = edits_copied list (copied_from sent chunk) ≡ b.origin

-- Behind whatever happens at a server the account agrees with the machine if it did before. What the chunk is a copy of is a matter of two chunks.
abbrev pub ServersAgree : {D : Type 0} → (D → List ℕ) → Config → (ReqId → List ℕ) → Type 0
ServersAgree {D} seen config bytes = (chunk : ℕ) (step : Step) (old new : History D) (a : Account) (w v : ChunkWorld) (reached : IsReached w)
    → Keeps config bytes old → ShowsNodes config bytes reached.0.epoch chunk old w → ShowsNodes config bytes reached.0.epoch chunk new v → (by : ByServer seen config bytes reached.0.epoch chunk step old new w v) → IsMet step by.goes
    → Agrees a old.sent chunk reached.0 w → OriginShows (account_behind step old a new a.durable).list new.sent chunk reached.0 v → Agrees (account_behind step old a new a.durable) new.sent chunk reached.0 v

-- And where nothing happens at any server or at the master it agrees as before.
abbrev pub StillAgree : Type 0 → Config → (ReqId → List ℕ) → Type 0
StillAgree D config bytes = (chunk : ℕ) (step : Step) (old new : History D) (a : Account) (w : ChunkWorld) (reached : IsReached w) → new.nodes.servers ≡ old.nodes.servers
    → (by : NodeId) (messages : List Message) (moment : Moment) → AreOfClient messages → Posts moment by messages old.sent new.sent → ShowsNodes config bytes reached.0.epoch chunk new w
    → Agrees a old.sent chunk reached.0 w → OriginShows (account_behind step old a new a.durable).list new.sent chunk reached.0 w → Agrees (account_behind step old a new a.durable) new.sent chunk reached.0 w

-- Behind whatever the master does, an account agrees with the machine if it did before.
abbrev pub MastersAgree : {D : Type 0} → (D → List ℕ) → Config → (ReqId → List ℕ) → Type 0
MastersAgree {D} seen config bytes = (chunk : ℕ) (step : Step) (old new : History D) (a : Account) (w v : ChunkWorld) (reached : IsReached w) → ShowsNodes config bytes reached.0.epoch chunk new v
    → (by : ByMaster seen config bytes reached.0.epoch chunk step old new w v) → by.before ≡ a.durable
    → Agrees a old.sent chunk reached.0 w → OriginShows a.list new.sent chunk reached.0 v → OriginShows (account_behind step old a new by.behind).list new.sent chunk reached.0 v
    → Agrees (account_behind step old a new by.behind) new.sent chunk reached.0 v

-- What an account has of a view that isn't above the settled one as the machine has it, it has so in another world.
abbrev pub ListsStay : ℕ → Account → ChunkWorld → Account → ChunkWorld → Type 0
ListsStay chunk a w b v = (t : ℕ) → t ≤ w.known.view → a.list chunk (stamp_at t) ≡ w.known.list t → b.list chunk (stamp_at t) ≡ v.known.list t

-- So it is behind whatever happens at a server, behind whatever the master does, and where nothing happens at either; and so from world to world.
abbrev pub ServersKeepLists : {D : Type 0} → (D → List ℕ) → Config → (ReqId → List ℕ) → Type 0
ServersKeepLists {D} seen config bytes = (chunk : ℕ) (step : Step) (old new : History D) (a : Account) (w v : ChunkWorld) (reached : IsReached w)
    → Keeps config bytes old → ShowsNodes config bytes reached.0.epoch chunk old w → ShowsNodes config bytes reached.0.epoch chunk new v → (by : ByServer seen config bytes reached.0.epoch chunk step old new w v) → IsMet step by.goes
    → ListsStay chunk a w (account_behind step old a new a.durable) v

abbrev pub MastersKeepLists : {D : Type 0} → (D → List ℕ) → Config → (ReqId → List ℕ) → Type 0
MastersKeepLists {D} seen config bytes = (chunk : ℕ) (step : Step) (old new : History D) (a : Account) (w v : ChunkWorld) (reached : IsReached w) → ShowsNodes config bytes reached.0.epoch chunk new v
    → (by : ByMaster seen config bytes reached.0.epoch chunk step old new w v) → by.before ≡ a.durable → ListsStay chunk a w (account_behind step old a new by.behind) v

abbrev pub StillKeepsLists : Type 0 → Type 0
StillKeepsLists D = (chunk : ℕ) (step : Step) (old new : History D) (a : Account) (w : ChunkWorld) → new.nodes.servers ≡ old.nodes.servers → ListsStay chunk a w (account_behind step old a new a.durable) w

abbrev pub ListsStayOn : Type 0
ListsStayOn = (chunk : ℕ) (a b c : Account) (u v w : ChunkWorld) → IsReached u → Leads u v → ListsStay chunk a u b v → ListsStay chunk b v c w → ListsStay chunk a u c w

-- of a chunk that isn't born no edit is in any list, nobody has had any, and no view is told
pub record IsBlank (a : Account) (chunk : ℕ) : Type 0 where
  pub list : (stamp : Stamp) → a.list chunk stamp ≡ []
  pub reached : (server : ℕ) (stamp : Stamp) → a.reached chunk server stamp ≡ 0
  pub none : fin.get a.durable.chunks chunk ≡ None

-- It stays so at each step behind which no server has a replica of it, and no view is told.
abbrev pub BlanksStay : Type 0 → Type 0
BlanksStay D = (chunk : ℕ) (step : Step) (old new : History D) (a : Account) (d : Durable) → IsBlank a chunk → ((id : ℕ) (s : Server) → slice_get new.nodes.servers id ≡ Some s → (slot_in chunk s).live ≡ None) → fin.get d.chunks chunk ≡ None → IsBlank (account_behind step old a new d) chunk

-- And so an account agrees with a chunk's machine where the master has let the chunk be born, as long as it wasn't rolling back.
abbrev pub BirthsAgree : Type 0 → Config → (ReqId → List ℕ) → Type 0
BirthsAgree D config bytes = (chunk : ℕ) (step : Step) (old new : History D) (a : Account) (d : Durable) (b : Birth) (v : ChunkWorld) → IsBlank a chunk → new.nodes.servers ≡ old.nodes.servers → (leads : Leads (world_of b) v) → AreOfMaster (world_of b) v leads
    → ShowsNodes config bytes b.epoch chunk new v → ShowsDurable chunk d v.entry → is_rolling a.durable.phase ≡ false → RowsGo chunk a.durable d (world_of b) v
    → AllSent (λ (m : Message). CopiesNone chunk m.to m.body) old.sent → (messages : List Message) (moment : Moment) → Posts moment nodes.Master messages old.sent new.sent → AreCopiedSince chunk d 0 true v messages
    → OriginShows (account_behind step old a new d).list new.sent chunk b v → Agrees (account_behind step old a new d) new.sent chunk b v
