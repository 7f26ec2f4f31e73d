-- How the machine of a chunk goes on where something happens at one server.
use Rattle.std.specs.Prelude.{◌≡◌, ◌<◌, ◌≤◌, ℕ, ◌+◌, ◌++◌, true, false, nat_eq, List, Option, Some, Contains, ◌⊎◌, is_some}
use Rattle.std.specs.List.{AllByRecursion}
use Rattle.gs_replica.specs.Stands.{Edit}
use Rattle.gs_msg.specs.declared.message.Message.{Message}
use Rattle.gs_base.specs.declared.numbers.ReqId.{ReqId}
use Rattle.gs_store.specs.Slots.{Slot}
use Rattle.gs_store.specs.Standing.{IsToldIn, SealToldIn}
use Rattle.gs_store.specs.Whole.{LiveUnder}
use Rattle.gs_server_lease.specs.Leases as primary
use Rattle.gs_server.specs.Places.{Place, Here, Part, after}
use Rattle.gs_server.specs.Servers.{Server}
use Rattle.gs_server.specs.Runs.{slot_in, IsReached}
use Rattle.gs_base.specs.declared.epoch.EpochEnd.{EpochEnd}
use Rattle.gs_laws_chunk.specs.machine.Machine.{MemberLease, Member, Known, Sent, ChunkWorld, WasTold, Epoch}
use Rattle.gs_laws_chunk.specs.machine.Events.{Leads}
use Rattle.gs_laws_chunk.specs.machine.Stamps.{epoch_of}
use Rattle.gs_laws_parts.specs.server.Showing.{Setting, setting_at, IsLaterOne, LiveIsLater, ShowsPlace, ShowsMember, BuffersRight}
use Rattle.gs_laws_parts.specs.server.Telling.{ServersTell}
use Rattle.gs_laws_parts.specs.server.Answering.{AnswersEdit, AnswersOf, IsLed}
use Rattle.gs_laws_parts.specs.server.Blocks.{GoesOn}
use Rattle.gs_laws_parts.specs.server.Causes.{Cause, Calm, spares, Numbers}

-- it was carried before, or this member carries it now
abbrev pub CarriesMore : ChunkWorld → ℕ → Member → ℕ → ℕ → Type 0
CarriesMore w me m e j = (w.known.carries e j ≡ true) ⊎ ((j ≡ me) × (e ≡ epoch_of m.promise) × (m.carried ≡ true))

-- Events of one server lead to a world in which it is this member and these messages are sent. No other member changes, and nothing
-- of the master. What was sent stays so, and lists of views grow at their ends alone. No count that was reached changes but that of this
-- member under its promise, while it has a live replica; and nothing is carried more but by this member, within the epoch of its promise, if it tells so.
pub record Moved (w : ChunkWorld) (me : ℕ) (m : Member) (sends : List Sent) : Type 0 where
  pub world : ChunkWorld
  pub leads : Leads w world
  pub is : world.members me ≡ m
  pub others : (j : ℕ) → nat_eq j me ≡ false → world.members j ≡ w.members j
  pub entry : world.entry ≡ w.entry
  pub current : world.known.current ≡ w.known.current
  pub how : world.known.how ≡ w.known.how
  pub grows : (t : ℕ) → (more : List Edit) × (world.known.list t ≡ w.known.list t ++ more)
  pub reached : (j t : ℕ) → (world.known.reached j t ≡ w.known.reached j t) ⊎ ((j ≡ me) × (t ≡ m.promise) × (is_some m.live ≡ true))
  pub carries : (e j : ℕ) → world.known.carries e j ≡ true → CarriesMore w me m e j
  pub stays : (x : Sent) → Contains w.sent x → Contains world.sent x
  pub says : (x : Sent) → Contains sends x → Contains world.sent x

-- What a server of an epoch has to keep of a chunk is spared: nothing strikes the replica, or what is struck is a later one, which counts no more.
abbrev pub Spares : Cause → Known → ℕ → Slot → Type 0
Spares cause k epoch s = (spares cause ≡ true) ⊎ (IsLaterOne s × LiveIsLater k epoch)

-- What makes a member intact, whatever it was before: a copy that carries the image and raises the promise, and a rollback at the server.
pub record MadeIntact (m n : Member) : Type 0 where
  pub brought : m.promise < n.promise → n.carried ≡ true → n.intact ≡ true
  pub rolled : m.epoch + 1 ≡ n.epoch → m.promise < n.promise → n.intact ≡ true

-- They lead to where a place is shown, and all that is sent with it. A list grows only where the place's replica takes an edit, which
-- is a client's that is heard. What spares that which the server has to keep leaves the member intact, and what
-- brings the image makes it so.
pub record FollowsServer (cause : Cause) (c : Setting) (chunk : ℕ) (w : ChunkWorld) (me epoch : ℕ) (p : Place) (sent : List Message) : Type 0 where
  pub member : Member
  pub sends : List Sent
  pub moved : Moved w me member sends
  pub lists : (t : ℕ) → GoesOn c p.slot (w.known.list t) (moved.world.known.list t)
  pub numbers : (t : ℕ) → Numbers cause c (w.members me) member t (w.known.list t) (moved.world.known.list t)
  pub intact : Spares cause w.known (w.members me).epoch p.slot → (w.members me).intact ≡ true → member.intact ≡ true
  pub gains : MadeIntact (w.members me) member
  pub shows : ShowsPlace c moved.world.known epoch p member
  pub tells : AllByRecursion (ServersTell c chunk moved.world) sent

-- What is known where a message about a chunk comes to a server: what the server keeps of the chunk is shown; a lease that it holds is of
-- the promise, and so is its live replica; and its sizes are such as configurations have.
pub record IsHere (bytes : ReqId → List ℕ) (born : ℕ) (w : ChunkWorld) (h : Here) (p : Place) : Type 0 where
  pub shows : ShowsPlace (setting_at bytes born h) w.known h.epoch p (w.members h.me)
  pub leased : (l : primary.PrimaryLease) → p.lease ≡ Some l → l.grant.stamp ≡ p.slot.promise
  pub under : LiveUnder p.slot.promise p.slot.live
  pub some_block : 1 ≤ h.block
  pub block_fits : h.block ≤ 65536
  pub chunk_fits : h.chunk ≤ 67108864

-- digests tell what is kept from what it stands for
pub record IsToldApart (block size : ℕ) (s : Slot) (m : Member) : Type 0 where
  pub live : (edits : List Edit) → m.live ≡ Some edits → IsToldIn block size s edits
  pub image : (edits : List Edit) → m.image ≡ Some edits → SealToldIn block size s edits

-- The replica of a primary has the whole list of the view in which it numbers edits, which was settled. Wherever the machine goes on that view is one in which a server may number.
abbrev pub LeadsWhole : ChunkWorld → ℕ → Type 0
LeadsWhole w me = (l : MemberLease) (edits : List Edit) → (w.members me).lease ≡ Some l → l.stamp ≡ (w.members me).promise → (w.members me).live ≡ Some edits → (w.known.list (w.members me).promise ≡ edits) × ((w.members me).promise ≤ w.entry.view.stamp) × ((last : ChunkWorld) → Leads w last → IsLed last.known (w.members me).promise)

-- what the machine was told of an epoch is how the epoch began
abbrev pub EpochsAreKnown : ChunkWorld → Type 0
EpochsAreKnown w = (to epoch : ℕ) (end : EpochEnd) → WasTold w to (Epoch epoch end) → (epoch ≤ w.known.current) × (w.known.how epoch ≡ end)

-- What is known of a server of an epoch that hears of the next one: a lease that it holds is the one that was taken last, and no promise
-- is of a later epoch.
pub record IsNext (c : Setting) (w : ChunkWorld) (me : ℕ) (p : Place) (epoch : ℕ) : Type 0 where
  pub shows : ShowsPlace c w.known epoch p (w.members me)
  pub held : (l : primary.PrimaryLease) → p.lease ≡ Some l → p.slot.taken ≡ Some l.grant.stamp
  pub within : p.slot.promise.epoch ≤ epoch
  pub known : EpochsAreKnown w

-- what a message about the chunk comes to is some events of the machine
abbrev pub FollowsPart : (ReqId → List ℕ) → ℕ → ChunkWorld → Here → Place → Part → Type 0
FollowsPart bytes born w h p part = FollowsServer Calm (setting_at bytes born h) h.handle w h.me h.epoch (after p part) part.sent

-- a part that is some events of the machine, where each edit that is done is answered
pub record Answering (cause : Cause) (bytes : ReqId → List ℕ) (born : ℕ) (w : ChunkWorld) (h : Here) (p : Place) (part : Part) : Type 0 where
  pub follows : FollowsServer cause (setting_at bytes born h) h.handle w h.me h.epoch (after p part) part.sent
  pub answers : AllByRecursion (AnswersEdit cause (setting_at bytes born h) follows.moved.world h.me) part.sent

-- A server's step is some events of the machine: they lead to where the server is shown as it is then, and all that it sends. Where it
-- hears a message about the chunk, each edit that it tells a client is done is done in the machine; and it tells so only at messages about
-- chunks. It says nothing of what the master or clients say. A step that spares what the server has to keep leaves the
-- member intact, and one that brings the image makes it so.
pub record IsSteps (cause : Cause) (c : Setting) (chunk : ℕ) (w : ChunkWorld) (me : ℕ) (about : Option ℕ) (after : Server) (sent : List Message) : Type 0 where
  pub world : ChunkWorld
  pub leads : Leads w world
  pub others : (j : ℕ) → nat_eq j me ≡ false → world.members j ≡ w.members j
  pub entry : world.entry ≡ w.entry
  pub grows : (t : ℕ) → (more : List Edit) × (world.known.list t ≡ w.known.list t ++ more)
  pub lists : (t : ℕ) → GoesOn c (slot_in chunk after) (w.known.list t) (world.known.list t)
  pub numbers : (t : ℕ) → Numbers cause c (w.members me) (world.members me) t (w.known.list t) (world.known.list t)
  pub reached : (j t : ℕ) → (world.known.reached j t ≡ w.known.reached j t) ⊎ ((j ≡ me) × (t ≡ (world.members me).promise) × (is_some (world.members me).live ≡ true))
  pub carries : (e j : ℕ) → world.known.carries e j ≡ true → CarriesMore w me (world.members me) e j
  pub intact : Spares cause w.known (w.members me).epoch (slot_in chunk after) → (w.members me).intact ≡ true → (world.members me).intact ≡ true
  pub gains : MadeIntact (w.members me) (world.members me)
  pub stays : (x : Sent) → Contains w.sent x → Contains world.sent x
  pub same : (after.me ≡ me) × (after.block ≡ c.block) × (after.chunk ≡ c.size)
  pub shows : ShowsMember c chunk world after
  pub buffers : BuffersRight c after
  pub tells : AllByRecursion (ServersTell c chunk world) sent
  pub answers : AllByRecursion (AnswersOf cause c chunk world me about) sent

-- What is known of a server whenever something happens to it: it has begun with nothing; it is shown, and so are the bytes that were pushed
-- to it; digests tell what it keeps of the chunk from what that stands for; where it numbers edits its replica has the whole list; and the
-- machine was told of epochs as they began.
pub record IsShown (c : Setting) (chunk : ℕ) (w : ChunkWorld) (s : Server) : Type 0 where
  pub reached : IsReached s
  pub shows : ShowsMember c chunk w s
  pub buffers : BuffersRight c s
  pub apart : IsToldApart s.block s.chunk (slot_in chunk s) (w.members s.me)
  pub whole : LeadsWhole w s.me
  pub known : EpochsAreKnown w
