-- What the master hears and says of the chunk, as it is sent in the machine.
use Rattle.std.specs.Prelude.{◌≡◌, ◌⊎◌, ◌<◌, ◌≤◌, ℕ, Bool, List, Contains}
use Rattle.std.specs.List.{AllByRecursion}
use Rattle.gs_base.specs.declared.epoch.EpochEnd.{EpochEnd}
use Rattle.gs_base.specs.declared.epoch.EpochEnd.TheVariants.{Prepare}
use Rattle.gs_msg.specs.declared.body.Body.{Body}
use Rattle.gs_msg.specs.declared.body.Body.TheVariants as bodies
use Rattle.gs_msg.specs.declared.chunk.Chunk.{Chunk}
use Rattle.gs_msg.specs.declared.chunk.Chunk.TheVariants as chunks
use Rattle.gs_msg.specs.declared.message.Message.{Message}
use Rattle.gs_msg.specs.declared.node.NodeId.{NodeId}
use Rattle.gs_msg.specs.declared.node.NodeId.TheVariants as nodes
use Rattle.gs_master_spec.specs.State.{State}
use Rattle.gs_laws_moves.specs.moves.Asked.{IsAskedSo}
use Rattle.gs_laws_chunk.specs.machine.Machine.{Member, Sent, ChunkWorld, Report, Epoch, Learned}
use Rattle.gs_laws_chunk.specs.machine.Events.{Leads, marked}
use Rattle.gs_laws_chunk.specs.machine.Mastering.{AreOfMaster}
use Rattle.gs_laws_parts.specs.server.Messages.{NamesIt, ReportsIt, SaysOf, TellsEpochTo, TellsServer}
use Rattle.gs_laws_parts.specs.master.Showing.{ShowsEntry}

-- ---- what a server says

-- what a server has said of the chunk it has said in the machine
abbrev pub Says : ℕ → ChunkWorld → ℕ → Body → Type 0
Says chunk w from (bodies.About handle said) = handle ≡ chunk → SaysOf w from said
Says chunk w from (bodies.Report epoch replicas) = AllByRecursion (ReportsIt chunk w from epoch) replicas
Says chunk w from (bodies.Learned epoch handles) = AllByRecursion (NamesIt chunk w from epoch) handles
Says chunk w from body = Unit {0}

-- ---- what the master says

-- what is told to a server about the chunk is told to it in the machine
abbrev pub TellsTo : ℕ → ChunkWorld → NodeId → Chunk → Type 0
TellsTo born w (nodes.Server to) said = TellsServer born w to said
TellsTo born w to said = Unit {0}

abbrev pub TellsBody : ℕ → ℕ → ChunkWorld → NodeId → Body → Type 0
TellsBody born chunk w to (bodies.About handle said) = handle ≡ chunk → TellsTo born w to said
TellsBody born chunk w to (bodies.Epoch epoch end) = TellsEpochTo born w to epoch end
TellsBody born chunk w to body = Unit {0}

-- what a message of the master says of the chunk is among what is said in the machine
abbrev pub MastersTell : ℕ → ℕ → ChunkWorld → Message → Type 0
MastersTell born chunk w m = TellsBody born chunk w m.to m.body

-- ---- a state, and how the machine goes on

-- The state is shown, and what is in memory of the chunk was said in the machine.
pub record Shows (chunk : ℕ) (s : State) (w : ChunkWorld) : Type 0 where
  pub entry : ShowsEntry chunk s w.entry
  pub said : IsAskedSo (Says chunk w) s chunk

-- No server changes, but for what only the proof sees: at a prepare those are intact which are whole.
abbrev pub IsSameMember : Member → Bool → Member → Type 0
IsSameMember m whole n = (n ≡ m) ⊎ (n ≡ marked m whole)

-- an epoch has begun by a prepare since
abbrev pub IsPreparedSince : ChunkWorld → ChunkWorld → ℕ → Type 0
IsPreparedSince w v e = (w.entry.epoch < e) × (e ≤ v.entry.epoch) × (v.entry.how e ≡ Prepare)

-- Where one has, each server is intact which is whole, and no other.
abbrev pub Marks : (ℕ → Bool) → ChunkWorld → ChunkWorld → Type 0
Marks whole w v = (e : ℕ) → IsPreparedSince w v e → (j : ℕ) → v.members j ≡ marked (w.members j) (whole j)

-- Where none has, each server stays.
abbrev pub Spares : ChunkWorld → ChunkWorld → Type 0
Spares w v = ((e : ℕ) → IsPreparedSince w v e → ⊥) → (j : ℕ) → v.members j ≡ w.members j

-- Some events of the machine, all of the master's part, lead to where the state is shown, and all that is sent. What was sent stays so.
pub record FollowsMaster (born chunk : ℕ) (whole : ℕ → Bool) (w : ChunkWorld) (u : State) (messages : List Message) : Type 0 where
  pub world : ChunkWorld
  pub leads : Leads w world
  pub masters : AreOfMaster w world leads
  pub members : (j : ℕ) → IsSameMember (w.members j) (whole j) (world.members j)
  pub marks : Marks whole w world
  pub stays : (x : Sent) → Contains w.sent x → Contains world.sent x
  pub shows : Shows chunk u world
  pub tells : AllByRecursion (MastersTell born chunk world) messages
