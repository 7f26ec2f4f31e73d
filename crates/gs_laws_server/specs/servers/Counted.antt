-- Counts of edits that 64 bits hold: those that a server keeps, and those that are sent.
use Rattle.std.specs.Prelude.{ℕ, Option, Some, None}
use Rattle.std.specs.List.{AllByRecursion}
use Rattle.gs_base.specs.Told.{IsNumber}
use Rattle.gs_base.specs.declared.numbers.Stamp.{Stamp}
use Rattle.gs_replica.specs.Copies.{SealedImage}
use Rattle.gs_replica.specs.Seals.{Sealed, State}
use Rattle.gs_msg.specs.declared.body.Body.{Body}
use Rattle.gs_msg.specs.declared.body.Body.TheVariants as bodies
use Rattle.gs_msg.specs.declared.chunk.Chunk.{Chunk}
use Rattle.gs_msg.specs.declared.chunk.Chunk.TheVariants as chunks
use Rattle.gs_msg.specs.declared.message.Message.{Message}
use Rattle.gs_store.specs.Slots.{Live, Slot, nothing}
use Rattle.gs_server_lease.specs.declared.lease.Open.{Open}
use Rattle.gs_server_lease.specs.Leases.{PrimaryLease}
use Rattle.gs_server.specs.Servers.{Server, Step, place_of}
use Rattle.gs_server.specs.Runs.{Event, Hears, slot_in}

-- ---- what a server keeps

-- how many edits were applied when a replica was sealed
abbrev pub IsCountedSeal : Option Sealed → Type 0
IsCountedSeal None = Unit {0}
IsCountedSeal (Some t) = IsNumber t.count

-- and how many a replica has applied
abbrev pub IsCountedReplica : State → Type 0
IsCountedReplica r = IsNumber r.held.count × IsCountedSeal r.sealed

-- the replica that is live, if one is
abbrev pub IsCountedLive : Option Live → Type 0
IsCountedLive None = Unit {0}
IsCountedLive (Some l) = IsCountedReplica l.replica

-- the one in the trash, if one is
abbrev pub IsCountedTrash : Option State → Type 0
IsCountedTrash None = Unit {0}
IsCountedTrash (Some r) = IsCountedReplica r

-- both, of a chunk
abbrev pub IsCountedSlot : Slot → Type 0
IsCountedSlot s = IsCountedLive s.live × IsCountedTrash s.trash

-- under a lease: the numbers of the edits that wait, and the counts that members have told
abbrev pub IsCountedLease : Option PrimaryLease → Type 0
IsCountedLease None = Unit {0}
IsCountedLease (Some l) = AllByRecursion (λ (edit : ℕ × Open). IsNumber edit.0) l.outbox × AllByRecursion IsNumber l.told

-- A server counts all edits in 64 bits: those of each chunk, and those that wait.
pub record IsCountedServer (s : Server) : Type 0 where
  pub slots : (handle : ℕ) → IsCountedSlot (slot_in handle s)
  pub leases : (handle : ℕ) → IsCountedLease (place_of handle s).lease

-- ---- what is sent

-- the count of a sealed image, if one is carried
abbrev pub IsCountedImage : Option SealedImage → Type 0
IsCountedImage None = Unit {0}
IsCountedImage (Some i) = IsNumber i.image.count

-- What is said about a chunk: the count that a server promises, the number of an edit that is to be applied, the count that a member has,
-- and those of the images that a copy carries.
abbrev pub IsCountedAbout : Chunk → Type 0
IsCountedAbout (chunks.Promised stamp count carried) = IsNumber count
IsCountedAbout (chunks.Forward stamp number req op bytes) = IsNumber number
IsCountedAbout (chunks.Ack stamp count) = IsNumber count
IsCountedAbout (chunks.CopyIn stamp image sealed) = IsNumber image.count × IsCountedImage sealed
IsCountedAbout said = Unit {0}

-- no other body carries a count that its receiver keeps
abbrev pub IsCountedBody : Body → Type 0
IsCountedBody (bodies.About handle said) = IsCountedAbout said
IsCountedBody body = Unit {0}

-- a message is counted where what it says is
abbrev pub IsCountedMessage : Message → Type 0
IsCountedMessage m = IsCountedBody m.body

-- what an event leaves, and all that is sent at it
pub record GoesCounted (step : Step) : Type 0 where
  pub after : IsCountedServer step.after
  pub sent : AllByRecursion IsCountedMessage step.sent

-- what a server hears at an event, if it hears anything
abbrev pub HearsCounted : Event → Type 0
HearsCounted (Hears message moment) = IsCountedMessage message
HearsCounted e = Unit {0}

-- Worked: a message that carries no count, one that carries one, and a chunk of which nothing was heard.
a_create_carries_none : (stamp : Stamp) → IsCountedBody (bodies.About 7 (chunks.Create stamp))
a_create_carries_none stamp = tt

an_acknowledgement_carries_one : (stamp : Stamp) (count : ℕ) → IsNumber count → IsCountedBody (bodies.About 7 (chunks.Ack stamp count))
an_acknowledgement_carries_one stamp count number = number

nothing_was_counted : IsCountedSlot nothing
nothing_was_counted = (tt, tt)
