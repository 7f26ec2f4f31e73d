-- All chunks of a master together: each isn't born yet, or is shown by a machine; and what is told of copies is so in the machines of both.
use Rattle.std.specs.Prelude.{◌≡◌, ◌⊎◌, ◌≤◌, ℕ, Bool, true, false, List, [], length, take, None, Some, is_some, Contains}
use Rattle.std.specs.List.{AllByRecursion}
use Rattle.gs_base.specs.declared.config.Config.{Config}
use Rattle.gs_base.specs.declared.numbers.Stamp.{Stamp}
use Rattle.gs_msg.specs.declared.body.Body.{Body}
use Rattle.gs_msg.specs.declared.body.Body.TheVariants as bodies
use Rattle.gs_msg.specs.declared.message.Message.{Message}
use Rattle.gs_msg.specs.declared.node.NodeId.{NodeId}
use Rattle.gs_msg.specs.declared.node.NodeId.TheVariants as nodes
use Rattle.gs_replica.specs.Stands.{Edit}
use Rattle.gs_master_spec.specs.Applied.{replayed}
use Rattle.gs_master_spec.specs.Durable.{Durable}
use Rattle.gs_master_spec.specs.Handling.{fresh, restarted}
use Rattle.gs_master_spec.specs.State.{State, Log, Turn}
use Rattle.gs_laws_master.specs.Promises.{IsKept, IsWritten}
use Rattle.gs_laws_moves.specs.moves.Asked.{WasHeard}
use Rattle.gs_laws_moves.specs.moves.Guards.{Heard, IsMade}
use Rattle.gs_laws_moves.specs.moves.Laws.{IsMadeWell}
use Rattle.gs_laws_moves.specs.moves.Moves.{Chain}
use Rattle.gs_laws_chunk.specs.machine.Stamps.{epoch_of, stamp_at}
use Rattle.gs_laws_chunk.specs.machine.Laws.{Birth, IsReached, world_of}
use Rattle.gs_laws_chunk.specs.machine.Mastering.{AreOfMaster}
use Rattle.gs_laws_chunk.specs.machine.Machine.{Sent, ChunkWorld, WasTold, CopyIn}
use Rattle.gs_laws_chunk.specs.machine.Events.{Leads, no_member}
use Rattle.gs_laws_chunk.specs.machine.Numbering.{IsBehind}
use Rattle.gs_laws_parts.specs.master.Showing.{IsPast, Rises}
use Rattle.gs_laws_parts.specs.master.Telling.{IsSameMember, Marks, Says, Shows, MastersTell}
use Rattle.gs_laws_parts.specs.master.Unborn.{IsUnborn, SaysNothing, silent}

-- ---- one chunk

-- a world of its machine is reached, and shows the state
pub record IsAlive (chunk : ℕ) (s : State) : Type 0 where
  pub world : ChunkWorld
  pub reached : IsReached world
  pub shows : Shows chunk s world

-- it isn't born, or it lives
pub data Life (chunk : ℕ) (s : State) : Type 0 where
  Unborn : IsUnborn chunk s → Life chunk s
  Alive : IsAlive chunk s → Life chunk s

-- the epoch of its birth
abbrev pub birth_of : {chunk : ℕ} {s : State} → IsAlive chunk s → ℕ
birth_of a = a.reached.0.epoch

-- what is heard was said in its machine; of one that isn't born nothing was said
abbrev pub HeardOf : (chunk : ℕ) (s : State) → Heard → Life chunk s → Type 0
HeardOf chunk s heard (Unborn u) = WasHeard (Says chunk silent) heard
HeardOf chunk s heard (Alive a) = WasHeard (Says chunk a.world) heard

-- the servers that are whole have live replicas; of one that isn't born nobody has
abbrev pub MarksOf : (chunk : ℕ) (s : State) → (ℕ → Bool) → Life chunk s → Type 0
MarksOf chunk s whole (Unborn u) = (j : ℕ) → whole j ≡ false
MarksOf chunk s whole (Alive a) = (j : ℕ) → whole j ≡ true → is_some (a.world.members j).live ≡ true

-- its machine goes on: from the same birth, with no server changed but for the marks, and with all told that is sent
pub record GoesAlive (chunk : ℕ) (whole : ℕ → Bool) (s u : State) (messages : List Message) (a : IsAlive chunk s) (b : IsAlive chunk u) : Type 0 where
  pub leads : Leads a.world b.world
  pub masters : AreOfMaster a.world b.world leads
  pub same : b.reached.0 ≡ a.reached.0
  pub members : (j : ℕ) → IsSameMember (a.world.members j) (whole j) (b.world.members j)
  pub marks : Marks whole a.world b.world
  pub stays : (x : Sent) → Contains a.world.sent x → Contains b.world.sent x
  pub tells : AllByRecursion (MastersTell (birth_of b) chunk b.world) messages

-- it is born: no server has anything, and no view of it is of a stamp below one that was given before
pub record GoesBorn (chunk : ℕ) (s u : State) (messages : List Message) (b : IsAlive chunk u) : Type 0 where
  pub later : s.durable.epoch ≤ birth_of b
  pub leads : Leads (world_of b.reached.0) b.world
  pub masters : AreOfMaster (world_of b.reached.0) b.world leads
  pub members : (j : ℕ) → b.world.members j ≡ no_member (birth_of b)
  pub fresh : (top : ℕ) → IsPast s.durable top → IsBehind top b.world.known
  pub tells : AllByRecursion (MastersTell (birth_of b) chunk b.world) messages

-- it isn't born yet: nothing is said of it
pub record GoesSilent (chunk : ℕ) (s u : State) (messages : List Message) : Type 0 where
  pub rises : Rises s.durable u.durable
  pub says : AllByRecursion (SaysNothing chunk u.durable.epoch) messages

abbrev pub Goes : (chunk : ℕ) (whole : ℕ → Bool) (s u : State) (messages : List Message) → Life chunk s → Life chunk u → Type 0
Goes chunk whole s u messages (Unborn b) (Unborn v) = GoesSilent chunk s u messages
Goes chunk whole s u messages (Unborn b) (Alive c) = GoesBorn chunk s u messages c
Goes chunk whole s u messages (Alive a) (Unborn v) = ⊥
Goes chunk whole s u messages (Alive a) (Alive c) = GoesAlive chunk whole s u messages a c

-- ---- copies

-- The list of a view that was settled, in which nobody may number; the server is a member of it. So it stays.
pub record IsFixed (w : ChunkWorld) (t me : ℕ) (edits : List Edit) : Type 0 where
  pub within : t ≤ w.known.view
  pub free : w.known.holder t ≡ None
  pub member : w.known.members t me ≡ true
  pub list : w.known.list t ≡ edits

-- A copy of the old chunk's replica of a stamp, under the new handle and a new stamp: it brings the list of the old one's view to the new one, which was born
-- with just that list.
pub record IsCopiedTo (w v : ChunkWorld) (birth : Birth) (me : ℕ) (at stamp : Stamp) : Type 0 where
  pub before : ℕ
  pub after : ℕ
  pub edits : List Edit
  pub origin : birth.origin ≡ edits
  pub from : at ≡ stamp_at before
  pub to : stamp ≡ stamp_at after
  pub late : birth.epoch ≤ epoch_of after
  pub told : WasTold v me (CopyIn after edits None)
  pub fixed : IsFixed w before me edits

-- it is so of each two chunks
abbrev pub IsCopyOf : (old new : ℕ) (s : State) → Life old s → Life new s → ℕ → Stamp → Stamp → Type 0
IsCopyOf old new s life (Unborn b) me at stamp = ⊥
IsCopyOf old new s (Alive a) (Alive b) me at stamp = IsCopiedTo a.world b.world b.reached.0 me at stamp
IsCopyOf old new s (Unborn a) (Alive b) me at stamp = ⊥

-- ---- all of them

abbrev pub Family : State → Type 0
Family s = (chunk : ℕ) → Life chunk s

abbrev pub CopiesTo : (s : State) → Family s → NodeId → Body → Type 0
CopiesTo s family (nodes.Server me) (bodies.MakeCopy old at new stamp) = IsCopyOf old new s (family old) (family new) me at stamp
CopiesTo s family to body = Unit {0}

abbrev pub CopiesOf : (s : State) → Family s → Message → Type 0
CopiesOf s family m = CopiesTo s family m.to m.body

-- ---- where lists come from

-- these are the first edits of a list of a chunk that lives there
pub record BeginsOld (s : State) (family : Family s) (edits : List Edit) : Type 0 where
  pub chunk : ℕ
  pub alive : IsAlive chunk s
  pub is : family chunk ≡ Alive alive
  pub stamp : ℕ
  pub many : ℕ
  pub begins : edits ≡ take many (alive.world.known.list stamp)

-- there are none, or it is so
abbrev pub ComesFrom : (s : State) → Family s → List Edit → Type 0
ComesFrom s family edits = (edits ≡ []) ⊎ BeginsOld s family edits

-- the first edits of those with which it is born, if it is, are so
abbrev pub BornFrom : (List Edit → Type 0) → (chunk : ℕ) (s u : State) → Life chunk s → Life chunk u → Type 0
BornFrom P chunk s u (Unborn k) (Alive b) = (many : ℕ) → P (take many b.reached.0.origin)
BornFrom P chunk s u life last = Unit {0}

-- the first edits of each of its lists are so
abbrev pub ListsFrom : (List Edit → Type 0) → (chunk : ℕ) (u : State) → Life chunk u → Type 0
ListsFrom P chunk u (Alive b) = (stamp many : ℕ) → P (take many (b.world.known.list stamp))
ListsFrom P chunk u life = Unit {0}

-- who is told to make one of these chunks, as a copy
abbrev pub is_kept : (ℕ → Bool) → Body → Bool
is_kept keeps (bodies.MakeCopy old at new stamp) = keeps new
is_kept keeps body = true

-- one that is born, and isn't one of these, is born without edits
abbrev pub BornBare : Bool → (chunk : ℕ) (s u : State) → Life chunk s → Life chunk u → Type 0
BornBare kept chunk s u (Unborn k) (Alive b) = kept ≡ false → b.reached.0.origin ≡ []
BornBare kept chunk s u life last = Unit {0}

-- Behind some moves each chunk has gone on so. Of those that are born as copies some are kept: they begin with the edits of old ones, and what is told of copies to them is so. Nobody need
-- ever hear of the others.
pub record FamilyGoes (keeps : ℕ → Bool) (whole : ℕ → ℕ → Bool) (s u : State) (messages : List Message) (family : Family s) : Type 0 where
  pub last : Family u
  pub goes : (chunk : ℕ) → Goes chunk (whole chunk) s u messages (family chunk) (last chunk)
  pub origins : (chunk : ℕ) → BornFrom (ComesFrom s family) chunk s u (family chunk) (last chunk)
  pub bare : (chunk : ℕ) → BornBare (keeps chunk) chunk s u (family chunk) (last chunk)
  pub copies : AllByRecursion (λ (m : Message). is_kept keeps m.body ≡ true → CopiesOf u last m) messages

-- So the first edits of each list are none, or those of one of before.
abbrev pub FamilyLists : Type 0
FamilyLists = (keeps : ℕ → Bool) (whole : ℕ → ℕ → Bool) (s u : State) (messages : List Message) (family : Family s) (f : FamilyGoes keeps whole s u messages family) (chunk : ℕ) → ListsFrom (ComesFrom s family) chunk u (f.last chunk)

-- So it is over each chain of moves.
abbrev pub FamiliesGo : Type 0
FamiliesGo = (keeps : ℕ → Bool) (whole : ℕ → ℕ → Bool) (config : Config) (heard : Heard) (s : State) (t : Turn) (family : Family s) → ((chunk : ℕ) → HeardOf chunk s heard (family chunk)) → ((chunk : ℕ) → MarksOf chunk s (whole chunk) (family chunk))
    → Chain config (IsMadeWell config heard) s t → FamilyGoes keeps whole s t.after t.sent family

-- So it is of a chain whose records can be written, where what is durable stands at its beginning,
abbrev pub WrittenFamiliesGo : Type 0
WrittenFamiliesGo = (keeps : ℕ → Bool) (whole : ℕ → ℕ → Bool) (config : Config) (heard : Heard) (s : State) (t : Turn) (family : Family s) → ((chunk : ℕ) → HeardOf chunk s heard (family chunk)) → ((chunk : ℕ) → MarksOf chunk s (whole chunk) (family chunk))
    → IsKept s.durable → IsWritten t → Chain config (IsMade config heard) s t → FamilyGoes keeps whole s t.after t.sent family

-- and where the master is started again on the first of its records, or on all.
abbrev pub FamiliesCut : Type 0
FamiliesCut = (keeps : ℕ → Bool) (whole : ℕ → ℕ → Bool) (config : Config) (heard : Heard) (s : State) (t : Turn) (many : ℕ) (d : Durable) (log : Log) (family : Family s) → ((chunk : ℕ) → HeardOf chunk s heard (family chunk)) → ((chunk : ℕ) → MarksOf chunk s (whole chunk) (family chunk))
    → IsKept s.durable → IsWritten t → Chain config (IsMade config heard) s t → many ≤ length t.records → replayed s.durable (take many t.records) ≡ Some d → FamilyGoes keeps whole s (restarted d log) [] family

-- In a new store no chunk is born.
abbrev pub StartsUnborn : Type 0
StartsUnborn = (chunk : ℕ) (log : Log) → IsUnborn chunk (fresh log)
