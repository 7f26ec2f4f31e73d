-- What a message between the nodes says to the machine of one chunk.
use Rattle.std.specs.Prelude.{◌≡◌, ℕ, ◌+◌, ◌<◌, ◌≤◌, List, Option, Some, None, is_some, true}
use Rattle.std.specs.List.{AllByRecursion}
use Rattle.gs_block.specs.Stored.{digests_of}
use Rattle.gs_replica.specs.Copies.{Image, SealedImage}
use Rattle.gs_replica.specs.Stands.{Edit, IsTaken, replica_of}
use Rattle.gs_msg.specs.declared.node.NodeId.{NodeId}
use Rattle.gs_msg.specs.declared.node.NodeId.TheVariants as nodes
use Rattle.gs_msg.specs.declared.message.Message.{Message}
use Rattle.gs_msg.specs.declared.body.Reported.{Reported}
use Rattle.gs_msg.specs.declared.body.Body.{Body}
use Rattle.gs_msg.specs.declared.body.Body.TheVariants as bodies
use Rattle.gs_msg.specs.declared.chunk.Chunk.{Chunk}
use Rattle.gs_msg.specs.declared.chunk.Chunk.TheVariants as chunks
use Rattle.gs_store.specs.Standing.{StandsIn}
use Rattle.gs_server.specs.Servers.{Server}
use Rattle.gs_server.specs.Runs.{slot_in}
use Rattle.gs_laws_chunk.specs.machine.Stamps.{epoch_of, stamp_at}
use Rattle.gs_laws_chunk.specs.machine.Machine.{ChunkWorld, WasTold, Forward, Ack, CopyIn, Report, Epoch, Learned}
use Rattle.gs_laws_parts.specs.server.Messages as masters
use Rattle.gs_laws_parts.specs.server.Messages.{NamesIt, ReportsIt, TellsEpochTo}
use Rattle.gs_laws_parts.specs.server.Showing.{Setting, Says}

-- an image is what a list of edits gives, each of which is accepted in turn
pub record IsImage (c : Setting) (image : Image) (edits : List Edit) : Type 0 where
  pub taken : IsTaken c.size edits
  pub is : image ≡ replica_of c.size edits

-- and a sealed one, if there is one, with the digests of its blocks
abbrev pub AreImages : Setting → Option SealedImage → Option (List Edit) → Type 0
AreImages c None None = Unit {0}
AreImages c None (Some edits) = ⊥
AreImages c (Some i) None = ⊥
AreImages c (Some i) (Some edits) = IsImage c i.image edits × (i.digests ≡ digests_of c.block (replica_of c.size edits).bytes)

-- the bytes that a forward carries, if it does, are those of its edit
abbrev pub CarriesBytes : Option (List ℕ) → Edit → Type 0
CarriesBytes None e = Unit {0}
CarriesBytes (Some bytes) e = bytes ≡ e.bytes

-- What is told to a server about the chunk is told to it in the machine, with the same stamps, counts and edits.
abbrev pub TellsServer : Setting → ChunkWorld → ℕ → Chunk → Type 0
TellsServer c w to (chunks.Forward stamp number req op carried) = (t : ℕ) × (place : ℕ) × (e : Edit) × (stamp ≡ stamp_at t) × (number ≡ place + 1) × Says c req op e × CarriesBytes carried e × WasTold w to (Forward t place e)
TellsServer c w to (chunks.CopyIn stamp image sealed) = (t : ℕ) × (edits : List Edit) × (old : Option (List Edit)) × (stamp ≡ stamp_at t) × (c.born ≤ epoch_of t) × IsImage c image edits × AreImages c sealed old × WasTold w to (CopyIn t edits old)
TellsServer c w to said = masters.TellsServer c.born w to said

-- What a server says of the chunk to another is said by it in the machine.
abbrev pub SaysOf : Setting → ChunkWorld → NodeId → Chunk → Type 0
SaysOf c w (nodes.Server from) (chunks.Ack stamp count) = (t : ℕ) × (stamp ≡ stamp_at t) × WasTold w from (Ack t count)
SaysOf c w (nodes.Server from) said = masters.SaysOf w from said
SaysOf c w from said = Unit {0}

abbrev pub TellsTo : Setting → ChunkWorld → NodeId → Chunk → Type 0
TellsTo c w (nodes.Server to) chunk = TellsServer c w to chunk
TellsTo c w nodes.Master chunk = Unit {0}
TellsTo c w (nodes.Client client) chunk = Unit {0}

-- the replicas of the chunk in a server's report, and in what a server names
abbrev pub ReportsAll : ℕ → ChunkWorld → NodeId → ℕ → List Reported → Type 0
ReportsAll chunk w (nodes.Server from) epoch replicas = AllByRecursion (ReportsIt chunk w from epoch) replicas
ReportsAll chunk w from epoch replicas = Unit {0}

abbrev pub NamesAll : ℕ → ChunkWorld → NodeId → ℕ → List ℕ → Type 0
NamesAll chunk w (nodes.Server from) epoch handles = AllByRecursion (NamesIt chunk w from epoch) handles
NamesAll chunk w from epoch handles = Unit {0}

-- What a message says is among what is said in the machine of this chunk; and what is pushed are the bytes of the request.
abbrev pub TellsBody : Setting → ℕ → ChunkWorld → NodeId → NodeId → Body → Type 0
TellsBody c chunk w from to (bodies.About handle said) = handle ≡ chunk → SaysOf c w from said × TellsTo c w to said
TellsBody c chunk w from to (bodies.Push req bytes) = bytes ≡ c.bytes req
TellsBody c chunk w from to (bodies.Report epoch replicas) = ReportsAll chunk w from epoch replicas
TellsBody c chunk w from to (bodies.Learned epoch handles) = NamesAll chunk w from epoch handles
TellsBody c chunk w from to (bodies.Epoch epoch end) = TellsEpochTo c.born w to epoch end
TellsBody c chunk w from to body = Unit {0}

abbrev pub ServersTell : Setting → ℕ → ChunkWorld → Message → Type 0
ServersTell c chunk w m = TellsBody c chunk w m.from m.to m.body

-- What a copy under a new handle brings to this chunk, if it is the new one: the list for which the old one's replica stands at the
-- server, if there is one of the stamp that is copied.
abbrev pub BringsCopy : Setting → ℕ → ChunkWorld → Server → Body → Type 0
BringsCopy c chunk w s (bodies.MakeCopy handle at new_handle stamp) = new_handle ≡ chunk → (t : ℕ) × (edits : List Edit) × (stamp ≡ stamp_at t) × (c.born ≤ epoch_of t) × WasTold w s.me (CopyIn t edits None)
    × ((slot_in handle s).promise ≡ at → is_some (slot_in handle s).live ≡ true → StandsIn c.block c.size (slot_in handle s) edits)
BringsCopy c chunk w s body = Unit {0}
