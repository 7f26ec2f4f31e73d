-- What messages between the master and servers say to the machine of one chunk, which was born in an epoch.
use Rattle.std.specs.Prelude.{◌≡◌, ◌<◌, ◌≤◌, ℕ}
use Rattle.gs_base.specs.declared.epoch.EpochEnd.{EpochEnd}
use Rattle.gs_msg.specs.declared.body.Reported.{Reported}
use Rattle.gs_msg.specs.declared.chunk.Chunk.{Chunk}
use Rattle.gs_msg.specs.declared.chunk.Chunk.TheVariants as chunks
use Rattle.gs_msg.specs.declared.node.NodeId.{NodeId}
use Rattle.gs_msg.specs.declared.node.NodeId.TheVariants as nodes
use Rattle.gs_laws_chunk.specs.machine.Stamps.{epoch_of, stamp_at}
use Rattle.gs_laws_chunk.specs.machine.Machine.{ChunkWorld, WasTold, Create, Advance, Promised, Grant, CopyOut, Report, Drop, Epoch, Learned}

-- ---- what a server says

abbrev pub SaysOf : ChunkWorld → ℕ → Chunk → Type 0
SaysOf w from (chunks.Promised stamp count carried) = (t : ℕ) × (stamp ≡ stamp_at t) × WasTold w from (Promised t count carried)
SaysOf w from said = Unit {0}

-- a replica of the chunk in a server's report, and in what a server names
abbrev pub ReportsIt : ℕ → ChunkWorld → ℕ → ℕ → Reported → Type 0
ReportsIt chunk w from epoch r = r.handle ≡ chunk → (t : ℕ) × (r.promise ≡ stamp_at t) × WasTold w from (Report epoch t)

abbrev pub NamesIt : ℕ → ChunkWorld → ℕ → ℕ → ℕ → Type 0
NamesIt chunk w from epoch handle = handle ≡ chunk → WasTold w from (Learned epoch)

-- ---- what the master says

-- What is told to a server about the chunk is told to it in the machine, with the same stamps and members.
abbrev pub TellsServer : ℕ → ChunkWorld → ℕ → Chunk → Type 0
TellsServer born w to (chunks.Create stamp) = (t : ℕ) × (stamp ≡ stamp_at t) × (born ≤ epoch_of t) × WasTold w to (Create t)
TellsServer born w to (chunks.Advance stamp) = (t : ℕ) × (stamp ≡ stamp_at t) × WasTold w to (Advance t)
TellsServer born w to (chunks.Grant given) = (t : ℕ) × (given.stamp ≡ stamp_at t) × WasTold w to (Grant t given.members)
TellsServer born w to (chunks.CopyOut stamp target with_sealed) = (t : ℕ) × (stamp ≡ stamp_at t) × WasTold w to (CopyOut t target with_sealed)
TellsServer born w to (chunks.Drop epoch promise) = (t : ℕ) × (promise ≡ stamp_at t) × WasTold w to (Drop epoch t)
TellsServer born w to said = Unit {0}

-- an epoch behind the one of the birth is told to a server
abbrev pub TellsEpochTo : ℕ → ChunkWorld → NodeId → ℕ → EpochEnd → Type 0
TellsEpochTo born w (nodes.Server to) epoch end = born < epoch → WasTold w to (Epoch epoch end)
TellsEpochTo born w to epoch end = Unit {0}
