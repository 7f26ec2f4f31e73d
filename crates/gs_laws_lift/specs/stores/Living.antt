-- The chunks of a store, each with a machine that shows the store, or not born yet; and how they go on, all at once.
use Rattle.std.specs.Prelude.{◌≡◌, ◌⊎◌, ◌≤◌, ℕ, Bool, true, false, List, [], Option, take}
use Rattle.std.proofs.Common.{inl, inr}
use Rattle.gs_base.specs.declared.config.Config.{Config}
use Rattle.gs_base.specs.declared.numbers.Moment.{Moment}
use Rattle.gs_base.specs.declared.numbers.ReqId.{ReqId}
use Rattle.gs_base.specs.declared.numbers.Stamp.{Stamp}
use Rattle.gs_msg.specs.declared.body.Body.{Body}
use Rattle.gs_msg.specs.declared.body.Body.TheVariants as bodies
use Rattle.gs_msg.specs.declared.event.DiskId.{DiskId}
use Rattle.gs_msg.specs.declared.message.Message.{Message}
use Rattle.gs_msg.specs.declared.node.NodeId.{NodeId}
use Rattle.gs_msg.specs.declared.node.NodeId.TheVariants as nodes
use Rattle.gs_master_spec.specs.Durable.{Durable, is_rolling}
use Rattle.gs_nodes.specs.declared.place.MasterPlace.{MasterPlace}
use Rattle.gs_world.specs.Histories.{History}
use Rattle.gs_laws_world.specs.lasting.Lasting.{Lasts}
use Rattle.gs_laws_chunk.specs.machine.Machine.{ChunkWorld}
use Rattle.gs_laws_chunk.specs.machine.Events.{Leads, no_member}
use Rattle.gs_laws_chunk.specs.machine.Laws.{world_of}
use Rattle.gs_laws_chunk.specs.machine.Mastering.{AreOfMaster}
use Rattle.gs_laws_chunk.specs.machine.Numbering.{IsBehind}
use Rattle.gs_replica.specs.Stands.{Edit}
use Rattle.gs_laws_parts.specs.master.Families.{IsCopiedTo}
use Rattle.gs_laws_parts.specs.master.Rows.{AreCopiedSince, RowsGo}
use Rattle.gs_laws_parts.specs.master.Showing.{IsPast, ShowsDurable}
use Rattle.gs_laws_parts.specs.master.Unborn.{IsUngiven}
use Rattle.gs_world.specs.Runs.{Step}
use Rattle.gs_laws_lift.specs.stores.Among.{AllAmong, TextsAmong}
use Rattle.gs_laws_lift.specs.stores.Copying.{is_copied}
use Rattle.gs_laws_lift.specs.stores.Doing.{HasDurable}
use Rattle.gs_laws_lift.specs.stores.Going.{AllSent, Kind, Posts, heard_in}
use Rattle.gs_laws_lift.specs.stores.Joint.{GoesBy, heard_by}
use Rattle.gs_laws_lift.specs.stores.Saying.{PushRight}
use Rattle.gs_laws_lift.specs.stores.Showing.{IsAlive, Keeps, Life, ShowsMaster}

module _ {D : Type 0} (seen : D → List ℕ) (config : Config) (bytes : ReqId → List ℕ) where
  -- ---- copies

  -- the new chunk lives, and so does the old one, whose list this server is told to copy, in the machines of both
  abbrev pub IsCopy : (old new : ℕ) (h : History D) → Life seen config bytes old h → Life seen config bytes new h → ℕ → Stamp → Stamp → Type 0
  IsCopy old new h life (inl unborn) me at stamp = ⊥
  IsCopy old new h (inr a) (inr b) me at stamp = IsCopiedTo a.world b.world b.reached.0 me at stamp
  IsCopy old new h (inl unborn) (inr b) me at stamp = ⊥

  abbrev pub CopiesTo : (h : History D) → ((chunk : ℕ) → Life seen config bytes chunk h) → NodeId → Body → Type 0
  CopiesTo h life (nodes.Server me) (bodies.MakeCopy old at new stamp) = IsCopy old new h (life old) (life new) me at stamp
  CopiesTo h life to body = Unit {0}

  -- ---- how one chunk goes on

  -- one that lives, from the same birth, where a server hears about this chunk, if one does
  pub record LivesOn (chunk : ℕ) (step : Step) (about : Option ℕ) (old new : History D) (a : IsAlive seen config bytes chunk old) (b : IsAlive seen config bytes chunk new) : Type 0 where
    pub same : b.reached.0 ≡ a.reached.0
    pub leads : Leads a.world b.world
    pub by : GoesBy seen config bytes a.reached.0.epoch chunk step old new a.world b.world
    pub heard : heard_by seen config bytes a.reached.0.epoch chunk step old new a.world b.world by ≡ about

  -- One is born by what the master does: it gives the handle, no server has anything of the chunk, and events of the master's part lead on from its birth, and its
  -- rows go along; nothing is rolled back. No view of it is of a stamp below one that was given before. Where nobody is told to make it as a copy it has no edits.
  pub record ComesAlive (chunk : ℕ) (old new : History D) (b : IsAlive seen config bytes chunk new) : Type 0 where
    pub before : Durable
    pub behind : Durable
    pub had : HasDurable seen old.nodes.master before
    pub has : HasDurable seen new.nodes.master behind
    pub ungiven : IsUngiven chunk before
    pub shows : ShowsDurable chunk behind b.world.entry
    pub later : before.epoch ≤ b.reached.0.epoch
    pub leads : Leads (world_of b.reached.0) b.world
    pub masters : AreOfMaster (world_of b.reached.0) b.world leads
    pub members : (j : ℕ) → b.world.members j ≡ no_member b.reached.0.epoch
    pub fresh : (top : ℕ) → IsPast before top → IsBehind top b.world.known
    pub rows : RowsGo chunk before behind (world_of b.reached.0) b.world
    pub calm : is_rolling before.phase ≡ false
    pub bare : is_copied new.sent chunk ≡ false → b.reached.0.origin ≡ []
    pub servers : new.nodes.servers ≡ old.nodes.servers
    pub messages : List Message
    pub copies : AreCopiedSince chunk behind 0 true b.world messages
    pub moment : Moment
    pub posted : Posts moment nodes.Master messages old.sent new.sent

  abbrev pub GoesOn : (chunk : ℕ) (step : Step) (about : Option ℕ) (old new : History D) → Life seen config bytes chunk old → Life seen config bytes chunk new → Type 0
  GoesOn chunk step about old new (inl unborn) (inl still) = Unit {0}
  GoesOn chunk step about old new (inl unborn) (inr b) = ComesAlive chunk old new b
  GoesOn chunk step about old new (inr a) (inl unborn) = ⊥
  GoesOn chunk step about old new (inr a) (inr b) = LivesOn chunk step about old new a b

  -- ---- with what one is born

  -- these are the first edits of a list of a chunk that lives there
  pub record BeginsOld (h : History D) (life : (chunk : ℕ) → Life seen config bytes chunk h) (edits : List Edit) : Type 0 where
    pub chunk : ℕ
    pub alive : IsAlive seen config bytes chunk h
    pub is : life chunk ≡ inr alive
    pub stamp : ℕ
    pub many : ℕ
    pub begins : edits ≡ take many (alive.world.known.list stamp)

  -- the edits with which a chunk is born, if it is, are such, or there are none
  abbrev pub BornFrom : (chunk : ℕ) (old new : History D) → ((other : ℕ) → Life seen config bytes other old) → Life seen config bytes chunk old → Life seen config bytes chunk new → Type 0
  BornFrom chunk old new lives (inl unborn) (inr b) = (b.reached.0.origin ≡ []) ⊎ BeginsOld old lives b.reached.0.origin
  BornFrom chunk old new lives life last = Unit {0}

  -- over many steps: one that lives leads on, from the same birth; one that isn't born may be born
  abbrev pub LeadsOn : (chunk : ℕ) (old new : History D) → Life seen config bytes chunk old → Life seen config bytes chunk new → Type 0
  LeadsOn chunk old new (inl unborn) life = Unit {0}
  LeadsOn chunk old new (inr a) (inl unborn) = ⊥
  LeadsOn chunk old new (inr a) (inr b) = (b.reached.0 ≡ a.reached.0) × Leads a.world b.world

-- ---- all of them

module _ {D : Type 0} (seen : D → List ℕ) (config : Config) (bytes : ReqId → List ℕ) (among : List ℕ → Bool) where
  -- the blocks that the lists of one that lives give are among some
  abbrev pub TextsOf : (chunk : ℕ) (h : History D) → Life seen config bytes chunk h → Type 0
  TextsOf chunk h (inl unborn) = Unit {0}
  TextsOf chunk h (inr a) = TextsAmong among config.block config.chunk a.world

  -- What stands of a store of which no disk has failed. The bytes that were pushed for a request are its own, and the blocks that servers have are among some.
  -- Each chunk is not born yet, or a machine of it shows the store; what is told of copies is so in the machines of both; and the blocks that lists give are
  -- among those too.
  pub record StoreLives (h : History D) : Type 0 where
    pub keeps : Keeps config bytes h
    pub lasts : Lasts seen h.nodes.master
    pub pushes : AllSent (PushRight bytes) h.sent
    pub held : (chunk : ℕ) → AllAmong among config.block chunk h.nodes.servers
    pub life : (chunk : ℕ) → Life seen config bytes chunk h
    pub copies : AllSent (λ (m : Message). CopiesTo seen config bytes h life m.to m.body) h.sent
    pub texts : (chunk : ℕ) → TextsOf chunk h (life chunk)

  -- it stands behind many steps, and each chunk has led on
  pub record StoreLeads (old new : History D) (lives : StoreLives old) : Type 0 where
    pub last : StoreLives new
    pub leads : (chunk : ℕ) → LeadsOn seen config bytes chunk old new (lives.life chunk) (last.life chunk)

module _ {D : Type 0} (seen : D → List ℕ) (failures : D → ℕ) (armed : DiskId → ℕ → MasterPlace D → MasterPlace D) (config : Config) (bytes : ReqId → List ℕ) (among : List ℕ → Bool) where
  -- It stands behind a step, and each chunk has gone on by just what the step is; those that are born have the edits of old ones.
  pub record StoreGoes (step : Step) (old new : History D) (lives : StoreLives seen config bytes among old) : Type 0 where
    pub kind : Kind seen failures armed step old new
    pub last : StoreLives seen config bytes among new
    pub goes : (chunk : ℕ) → GoesOn seen config bytes chunk step (heard_in seen failures armed kind) old new (lives.life chunk) (last.life chunk)
    pub from : (chunk : ℕ) → BornFrom seen config bytes chunk old new lives.life (lives.life chunk) (last.life chunk)

-- a failure that is arranged changes nothing that is shown of the master, or durable there
pub record ShowsArmed {D : Type 0} (seen : D → List ℕ) (armed : DiskId → ℕ → MasterPlace D → MasterPlace D) : Type 0 where
  pub shown : (chunk : ℕ) (w : ChunkWorld) (disk : DiskId) (call : ℕ) (place : MasterPlace D) → ShowsMaster seen chunk place w → ShowsMaster seen chunk (armed disk call place) w
  pub durable : (d : Durable) (disk : DiskId) (call : ℕ) (place : MasterPlace D) → HasDurable seen place d → HasDurable seen (armed disk call place) d
