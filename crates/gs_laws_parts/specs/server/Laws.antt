-- What the laws of a chunkserver say, as it is seen by one chunk.
use Rattle.std.specs.Prelude.{◌≡◌, ◌≢◌, ◌<◌, ◌≤◌, ℕ, ◌+◌, ◌++◌, ◌⊎◌, Bool, true, false, length, List, [], ◌∷◌, Option, Some, None, Ok, is_some, Contains}
use Rattle.std.specs.List.{AllByRecursion}
use Rattle.gs_base.specs.declared.epoch.EpochEnd.{EpochEnd}
use Rattle.gs_base.specs.declared.epoch.EpochEnd.TheVariants.{Rollback}
use Rattle.gs_base.specs.declared.numbers.Moment.{Moment}
use Rattle.gs_base.specs.declared.numbers.ReqId.{ReqId}
use Rattle.gs_msg.specs.declared.node.NodeId.{NodeId}
use Rattle.gs_msg.specs.declared.node.NodeId.TheVariants.{Master}
use Rattle.gs_base.specs.declared.numbers.Stamp.{Stamp}
use Rattle.gs_msg.specs.declared.chunk.Chunk.{Chunk}
use Rattle.gs_replica.specs.declared.op.EditOutcome.{EditOutcome as Told}
use Rattle.gs_msg.specs.declared.chunk.Asked.{Asked as Wanted}
use Rattle.gs_store.specs.Stores.{named}
use Rattle.gs_msg.specs.declared.body.Given.{Given}
use Rattle.gs_laws_parts.specs.server.Reading.{GivesOf, IsRead, Reads}
use Rattle.gs_laws_parts.specs.server.Holding.{IsUnder, HoldsAll}
use Rattle.gs_laws_parts.specs.server.Sealing.{KeepsPrepared}
use Rattle.gs_laws_parts.specs.server.Answering.{IsAnswered, IsPassed, handle_in}
use Rattle.gs_msg.specs.declared.op.Op.{Op}
use Rattle.gs_server.specs.Edits.{edit}
use Rattle.gs_msg.specs.declared.body.Reported.{Reported}
use Rattle.gs_msg.specs.declared.body.Body.TheVariants.{Learned, MakeCopy, Report}
use Rattle.gs_store.specs.Slots.{Slot, lose, damage}
use Rattle.gs_store.specs.Learning.{is_named}
use Rattle.gs_server_lease.specs.Leases.{tell}
use Rattle.gs_server.specs.Places.{Place, Here}
use Rattle.gs_server.specs.Lifts.{ticked, restarted, gone_on}
use Rattle.gs_server.specs.Servers.{about_chunk, request_in, stands_at, Server, handle, handle_chunk, store_of, tick, restart, beat}
use Rattle.gs_block.specs.Written.{HasBlocks, TellsApart}
use Rattle.gs_replica.specs.declared.op.Op.{Op as Applied}
use Rattle.gs_replica.specs.Held.{Held}
use Rattle.gs_replica.specs.Seals.{State, apply}
use Rattle.gs_replica.specs.Stands.{Edit, StandsFor, IsToldFrom, replica_of}
use Rattle.gs_laws_parts.specs.server.Causes.{Cause, Edits, Strikes, Calm, cause_of, cause_in, cause_by}
use Rattle.gs_laws_parts.specs.server.Blocks.{BlocksOf}
use Rattle.gs_laws_chunk.specs.machine.Lists.{ListsAreOld}
use Rattle.gs_laws_parts.specs.server.Among.{KeepsAmong, ListsAmong}
use Rattle.gs_laws_parts.specs.server.Harm.{intact_behind}
use Rattle.gs_laws_parts.specs.server.Unborn.{KeepsNothing, SaysNothing, StaysUnborn, IsTimely, IsUnbornAt}
use Rattle.gs_laws_chunk.specs.machine.Stamps.{epoch_of, stamp_at}
use Rattle.gs_laws_chunk.specs.machine.Machine.{Sent, ChunkWorld, WasTold, CopyIn, Epoch}
use Rattle.gs_laws_chunk.specs.machine.Events.{Event, Names, Prepares, Can, happens, born, marked, Leads}
use Rattle.gs_laws_chunk.specs.machine.Laws.{Birth, world_of, IsReached, IsSettledIn, StaysUnlessUndone, is_member, IsLegalRead, prepared_list, IsUpgrading, IsSurvivor}
use Rattle.gs_laws_chunk.specs.machine.Acting.{actor}
use Rattle.gs_msg.specs.declared.message.Message.{Message}
use Rattle.gs_msg.specs.declared.event.Request.{Request}
use Rattle.gs_client.specs.Nodes.{Node, asks}
use Rattle.gs_laws_parts.specs.server.Requests.{Asked, HasAsked, IsAskedNow, IsSentFor, with_client, with_asked, IsNoRequest, AreAsked}
use Rattle.gs_store.specs.Standing.{LiveUndamaged}
use Rattle.gs_laws_server.specs.servers.Calling.{call_by}
use Rattle.gs_server.specs.Runs.{Event as Happening, IsReached as HasBegun, Loses, Damages, behind, slot_in}
use Rattle.gs_laws_parts.specs.server.Servers.{IsServerOf, AreServersOf, with_server, whole_among, LeavesMembers, IsStore}
use Rattle.gs_laws_parts.specs.server.Showing.{Setting, setting_of, setting_at, ShowsPlace, ShowsMember}
use Rattle.gs_laws_parts.specs.server.Beside.{IsSameMember, IsWholeAt, MayBeWhole, IsCopyOf, HasPrepared}
use Rattle.gs_laws_parts.specs.server.Telling.{SaysOf, TellsServer, ServersTell, BringsCopy}
use Rattle.gs_laws_parts.specs.server.Moving.{IsHere, IsToldApart, IsNext, IsShown, IsSteps, LeadsWhole, FollowsServer, Answering}
use Rattle.gs_msg.specs.declared.chunk.Chunk.TheVariants as chunks
use Rattle.gs_msg.specs.declared.node.NodeId.TheVariants as nodes

-- ---- a message
-- A message about a chunk is some events of its machine, where the server is shown and the machine has what is said.
abbrev pub MessagesAreSteps : Type 0
MessagesAreSteps = (bytes : ReqId → List ℕ) (born : ℕ) (w : ChunkWorld) (h : Here) (p : Place) (from : NodeId) (chunk : Chunk) → IsHere bytes born w h p
    → IsToldApart h.block h.chunk p.slot (w.members h.me) → LeadsWhole w h.me
    → ((req : ReqId) → request_in chunk ≡ Some req → (b : List ℕ) → h.pushed ≡ Some b → b ≡ bytes req) → SaysOf (setting_at bytes born h) w from chunk
    → TellsServer (setting_at bytes born h) w h.me chunk → Answering (cause_of chunk) bytes born w h p (about_chunk h p from chunk)

-- ---- the end of an epoch
-- A server that goes on to the next epoch makes a step, if the machine has told it how the last one ended.
abbrev pub EpochEndsAreSteps : Type 0
EpochEndsAreSteps = (c : Setting) (chunk : ℕ) (w : ChunkWorld) (me : ℕ) (p : Place) (epoch : ℕ) (end : EpochEnd) → IsNext c w me p epoch
    → (c.born < epoch + 1 → WasTold w me (Epoch (epoch + 1) end)) → FollowsServer Calm c chunk w me (epoch + 1) (gone_on end (epoch + 1) p) []

-- So it is where it names chunks to the master then, and names this one only if it may.
abbrev pub NamingIsAStep : Type 0
NamingIsAStep = (c : Setting) (chunk : ℕ) (w : ChunkWorld) (me : ℕ) (epoch : ℕ) (p : Place) (handles : List ℕ) → FollowsServer Calm c chunk w me epoch p []
    → AllByRecursion (λ (handle : ℕ). handle ≡ chunk → is_named epoch p.slot ≡ true) handles
    → FollowsServer Calm c chunk w me epoch p (tell me Master (Learned epoch handles) ∷ [])

-- ---- what happens without a message
-- A restart is a step.
abbrev pub RestartsAreSteps : Type 0
RestartsAreSteps = (c : Setting) (chunk : ℕ) (w : ChunkWorld) (me : ℕ) (epoch : ℕ) (p : Place) → ShowsPlace c w.known epoch p (w.members me)
    → FollowsServer Calm c chunk w me epoch (restarted p) []

-- The end of a lease is a step.
abbrev pub LeaseEndsAreSteps : Type 0
LeaseEndsAreSteps = (c : Setting) (chunk : ℕ) (w : ChunkWorld) (me : ℕ) (epoch : ℕ) (p : Place) (moment : Moment) → ShowsPlace c w.known epoch p (w.members me)
    → stands_at moment p.lease ≡ false → FollowsServer Calm c chunk w me epoch (ticked moment p) []

-- A loss is a step that strikes the replica.
abbrev pub LossesAreSteps : Type 0
LossesAreSteps = (c : Setting) (chunk : ℕ) (w : ChunkWorld) (me : ℕ) (epoch : ℕ) (p : Place) (s : Slot) → ShowsPlace c w.known epoch p (w.members me) → lose p.slot ≡ Ok s
    → FollowsServer Strikes c chunk w me epoch (record { slot = s; lease = p.lease }) []

-- So is damage.
abbrev pub DamageIsAStep : Type 0
DamageIsAStep = (c : Setting) (chunk : ℕ) (w : ChunkWorld) (me : ℕ) (epoch : ℕ) (p : Place) (block : ℕ) (s : Slot) → ShowsPlace c w.known epoch p (w.members me)
    → damage block p.slot ≡ Ok s → FollowsServer Strikes c chunk w me epoch (record { slot = s; lease = p.lease }) []

-- A report is a step, if it says of the chunk what the slot has.
abbrev pub ReportsAreSteps : Type 0
ReportsAreSteps = (c : Setting) (chunk : ℕ) (w : ChunkWorld) (me : ℕ) (epoch : ℕ) (p : Place) (replicas : List Reported) → ShowsPlace c w.known epoch p (w.members me)
    → AllByRecursion (λ (r : Reported). r.handle ≡ chunk → (is_some p.slot.live ≡ true) × (r.promise ≡ p.slot.promise)) replicas
    → FollowsServer Calm c chunk w me epoch p (tell me Master (Report epoch replicas) ∷ [])

-- ---- what a server does
-- What a server makes of a message for it is steps, if the machine has what the message says of the chunk.
abbrev pub WhatIsHeardIsSteps : Type 0
WhatIsHeardIsSteps = (bytes : ReqId → List ℕ) (born : ℕ) (chunk : ℕ) (w : ChunkWorld) (s : Server) (message : Message) (moment : Moment)
    → IsShown (setting_of bytes born s) chunk w s → message.to ≡ nodes.Server s.me → ServersTell (setting_of bytes born s) chunk w message
    → BringsCopy (setting_of bytes born s) chunk w s message.body
    → IsSteps (cause_in chunk message.body) (setting_of bytes born s) chunk w s.me (handle_in message.body) (handle s message moment).after (handle s message moment).sent

-- So is its restart.
abbrev pub ServersRestartInSteps : Type 0
ServersRestartInSteps = (bytes : ReqId → List ℕ) (born : ℕ) (chunk : ℕ) (w : ChunkWorld) (s : Server) → IsShown (setting_of bytes born s) chunk w s
    → IsSteps Calm (setting_of bytes born s) chunk w s.me None (restart s) []

-- So is its beat.
abbrev pub BeatsAreSteps : Type 0
BeatsAreSteps = (bytes : ReqId → List ℕ) (born : ℕ) (chunk : ℕ) (w : ChunkWorld) (s : Server) → IsShown (setting_of bytes born s) chunk w s
    → IsSteps Calm (setting_of bytes born s) chunk w s.me None s (beat s ∷ [])

-- So is a tick.
abbrev pub TicksAreSteps : Type 0
TicksAreSteps = (bytes : ReqId → List ℕ) (born : ℕ) (chunk : ℕ) (w : ChunkWorld) (s : Server) (moment : Moment) → IsShown (setting_of bytes born s) chunk w s
    → IsSteps Calm (setting_of bytes born s) chunk w s.me None (tick s moment).after (tick s moment).sent

-- So is the loss of a replica of any chunk.
abbrev pub ServersLoseInSteps : Type 0
ServersLoseInSteps = (bytes : ReqId → List ℕ) (born : ℕ) (chunk : ℕ) (w : ChunkWorld) (s : Server) (handle : ℕ) → IsShown (setting_of bytes born s) chunk w s
    → IsSteps (cause_by chunk (Loses handle) s) (setting_of bytes born s) chunk w s.me None (behind (Loses handle) s) []

-- So is damage to a replica of any chunk.
abbrev pub ServersAreDamagedInSteps : Type 0
ServersAreDamagedInSteps = (bytes : ReqId → List ℕ) (born : ℕ) (chunk : ℕ) (w : ChunkWorld) (s : Server) (handle : ℕ) (block : ℕ)
    → IsShown (setting_of bytes born s) chunk w s
    → IsSteps (cause_by chunk (Damages handle block) s) (setting_of bytes born s) chunk w s.me None (behind (Damages handle block) s) []

-- ---- what a server gives
-- What a client reads of a chunk is what the edits of the member give.
abbrev pub ReadsAreOfMembers : Type 0
ReadsAreOfMembers = (bytes : ReqId → List ℕ) (born : ℕ) (chunk : ℕ) (w : ChunkWorld) (s : Server) (from : NodeId) (req : ReqId) (stamp : Stamp) (epoch : ℕ) (asked : Wanted) (moment : Moment)
    → IsShown (setting_of bytes born s) chunk w s
    → AllByRecursion (Reads (setting_of bytes born s) w s.me epoch stamp asked) (handle_chunk s from chunk (chunks.Fetch req stamp epoch asked) moment).sent

-- A server that is intact names the chunk in the epoch of a rollback, where its member can.
abbrev pub IntactServersName : Type 0
IntactServersName = (c : Setting) (chunk : ℕ) (w : ChunkWorld) (s : Server) (edits : List Edit) → ShowsMember c chunk w s → (w.members s.me).intact ≡ true
    → w.known.how (w.members s.me).epoch ≡ Rollback → Can w (Names s.me edits) → Contains (named s.kept.epoch (store_of s)) chunk

-- ---- what a server holds
-- A member of a quiet chunk that is under the stamp of its view holds the whole list, wherever the machine leads.
abbrev pub QuietChunksAreHeldWhole : Type 0
QuietChunksAreHeldWhole = (c : Setting) (chunk : ℕ) (w last : ChunkWorld) (s : Server) → IsReached w → Leads w last → w.entry.view.holder ≡ None → is_member w s.me ≡ true
    → ShowsMember c chunk last s → IsUnder chunk w s → HoldsAll c chunk w s

-- What a member of a view gives to a client that was told this view is legal.
abbrev pub WhatIsReadIsLegal : Type 0
WhatIsReadIsLegal = (c : Setting) (w last : ChunkWorld) (me : ℕ) (asked : Wanted) (found : Given) → IsReached w → Leads w last → w.entry.is_known ≡ true
    → w.entry.is_rolling ≡ false → is_member w me ≡ true → IsRead c last me w.entry.epoch (stamp_at w.entry.view.stamp) asked found
    → (edits : List Edit) × IsLegalRead w last edits × GivesOf c (replica_of c.size edits).bytes asked found

-- ---- what was prepared
-- A server that survives an upgrade keeps the list that was prepared.
abbrev pub SurvivingServersKeep : Type 0
SurvivingServersKeep = (b : Birth) (w : ChunkWorld) → Leads (world_of b) w → (c : Setting) (chunk : ℕ) (s : Server) → c.born ≡ b.epoch → ShowsMember c chunk w s
    → (upgrade : ℕ) → IsUpgrading w upgrade → IsSurvivor w s.me → KeepsPrepared c chunk s upgrade w.entry.prepared.stamp (prepared_list w)

-- While the upgrade is rolled back it names the chunk, once it knows of that.
abbrev pub SurvivingServersName : Type 0
SurvivingServersName = (b : Birth) (w : ChunkWorld) → Leads (world_of b) w → (c : Setting) (chunk : ℕ) (s : Server) → c.born ≡ b.epoch → ShowsMember c chunk w s
    → (upgrade : ℕ) → IsUpgrading w upgrade → w.entry.is_rolling ≡ true → IsSurvivor w s.me → s.kept.epoch ≡ w.entry.epoch
    → Contains (named s.kept.epoch (store_of s)) chunk

-- ---- what survives
-- What an account says is intact at a server behind an event is so in the machine, if it was so before.
abbrev pub WhatSurvivesIsIntact : Type 0
WhatSurvivesIsIntact = (c : Setting) (chunk : ℕ) (w : ChunkWorld) (s : Server) (upgrade : ℕ) (event : Happening) (about : Option ℕ) (sent : List Message) (so_far : Bool) (steps : IsSteps (cause_by chunk event s) c chunk w s.me about (behind event s) sent)
    → IsReached w → IsUpgrading w upgrade → ShowsMember c chunk w s → (so_far ≡ true → (w.members s.me).intact ≡ true)
    → intact_behind so_far (Some upgrade) chunk (call_by chunk event s) (Some s) (Some (behind event s)) ≡ true → (steps.world.members s.me).intact ≡ true

-- ---- the servers of a store
-- Each server of a store is as the laws of one server ask for, if digests tell what it keeps.
abbrev pub ServersAreShown : Type 0
ServersAreShown = (c : Setting) (chunk : ℕ) (w : ChunkWorld) (id : ℕ) (s : Server) → IsReached w → IsServerOf c chunk w id s
    → IsToldApart c.block c.size (slot_in chunk s) (w.members id) → IsShown (setting_of c.bytes c.born s) chunk w s

-- Where one server makes a step, all are servers of the world behind it.
abbrev pub ServersGoThroughSteps : Type 0
ServersGoThroughSteps = (c : Setting) (chunk : ℕ) (w : ChunkWorld) (servers : ℕ → Option Server) (cause : Cause) (id : ℕ) (s after : Server) (about : Option ℕ) (sent : List Message)
    → IsReached w → AreServersOf c chunk w servers → servers id ≡ Some s → (steps : IsSteps cause (setting_of c.bytes c.born s) chunk w s.me about after sent)
    → HasBegun after → AreServersOf c chunk steps.world (with_server servers id after)

-- So they are where the master goes on.
abbrev pub ServersFollowTheMaster : Type 0
ServersFollowTheMaster = (c : Setting) (chunk : ℕ) (w last : ChunkWorld) (servers : ℕ → Option Server) (whole : ℕ → Bool) → IsReached w → AreServersOf c chunk w servers
    → Leads w last → LeavesMembers chunk w whole last servers → AreServersOf c chunk last servers

-- A server that may be marked whole is so.
abbrev pub MarkedServersAreWhole : Type 0
MarkedServersAreWhole = (c : Setting) (chunk : ℕ) (w : ChunkWorld) (servers : ℕ → Option Server) (id : ℕ) (s : Server) → AreServersOf c chunk w servers
    → servers id ≡ Some s → whole_among chunk w servers id ≡ true → IsWholeAt chunk w s

-- And its member has a live replica.
abbrev pub MarkedMembersAreLive : Type 0
MarkedMembersAreLive = (c : Setting) (chunk : ℕ) (w : ChunkWorld) (servers : ℕ → Option Server) (id : ℕ) → AreServersOf c chunk w servers
    → whole_among chunk w servers id ≡ true → is_some (w.members id).live ≡ true

-- ---- what a run keeps of a chunk
-- Each server of a store is as the laws of one server ask for, where blocks are among those that digests tell apart.
abbrev pub StoresShowServers : Type 0
StoresShowServers = (among : List ℕ → Bool) (c : Setting) (chunk : ℕ) (w : ChunkWorld) (servers : ℕ → Option Server) (sent : List Message) (id : ℕ) (s : Server)
    → IsStore among c chunk w servers sent → servers id ≡ Some s → TellsApart among → KeepsAmong among c.block (slot_in chunk s)
    → IsShown (setting_of c.bytes c.born s) chunk w s

-- Where one server makes a step, the store goes on behind it.
abbrev pub StoresGoThroughSteps : Type 0
StoresGoThroughSteps = (among : List ℕ → Bool) (c : Setting) (chunk : ℕ) (w : ChunkWorld) (servers : ℕ → Option Server) (sent : List Message) (cause : Cause) (id : ℕ) (s after : Server) (about : Option ℕ) (new : List Message)
    → IsStore among c chunk w servers sent → servers id ≡ Some s → (steps : IsSteps cause (setting_of c.bytes c.born s) chunk w s.me about after new) → HasBegun after
    → KeepsAmong among c.block (slot_in chunk after) → IsStore among c chunk steps.world (with_server servers id after) (sent ++ new)

-- So it does where the master goes on.
abbrev pub StoresFollowTheMaster : Type 0
StoresFollowTheMaster = (among : List ℕ → Bool) (c : Setting) (chunk : ℕ) (w last : ChunkWorld) (servers : ℕ → Option Server) (sent : List Message) (whole : ℕ → Bool) (new : List Message)
    → IsStore among c chunk w servers sent → Leads w last → LeavesMembers chunk w whole last servers → ListsAreOld w last → AllByRecursion (ServersTell c chunk last) new
    → IsStore among c chunk last servers (sent ++ new)

-- And where something is said that the machine has.
abbrev pub StoresTakeWhatIsTold : Type 0
StoresTakeWhatIsTold = (among : List ℕ → Bool) (c : Setting) (chunk : ℕ) (w : ChunkWorld) (servers : ℕ → Option Server) (sent : List Message) (new : List Message)
    → IsStore among c chunk w servers sent → AllByRecursion (ServersTell c chunk w) new → IsStore among c chunk w servers (sent ++ new)

-- It begins where a chunk is born of which servers keep nothing.
abbrev pub StoresBeginAtBirth : Type 0
StoresBeginAtBirth = (among : List ℕ → Bool) (c : Setting) (chunk : ℕ) (b : Birth) (servers : ℕ → Option Server) (sent : List Message) → c.born ≡ b.epoch
    → ((id : ℕ) (s : Server) → servers id ≡ Some s → IsUnbornAt c chunk id s) → AllByRecursion (λ (m : Message). SaysNothing chunk m.body × IsTimely c m.body) sent
    → ListsAmong among c (world_of b) → IsStore among c chunk (world_of b) servers sent

-- ---- a chunk that is unborn
-- A message that says nothing of a chunk leaves it unborn at a server.
abbrev pub WhatIsUnsaidStaysUnborn : Type 0
WhatIsUnsaidStaysUnborn = (chunk : ℕ) (s : Server) (message : Message) (moment : Moment) → KeepsNothing chunk s → SaysNothing chunk message.body
    → StaysUnborn chunk (handle s message moment).after (handle s message moment).sent

-- Where a chunk is born, a server that keeps nothing of it is shown as a member, if it knows no later epoch.
abbrev pub NewbornsAreShown : Type 0
NewbornsAreShown = (c : Setting) (chunk : ℕ) (how : ℕ → EpochEnd) (origin : List Edit) (s : Server) → KeepsNothing chunk s → s.kept.epoch ≤ c.born
    → ShowsMember c chunk (born c.born how origin) s

-- ---- edits that all have
-- Each edit that an acknowledgement tells done is done in the machine.
abbrev pub AcknowledgementsAnswer : Type 0
AcknowledgementsAnswer = (bytes : ReqId → List ℕ) (born : ℕ) (w : ChunkWorld) (h : Here) (p : Place) (from : NodeId) (stamp : Stamp) (count : ℕ) → IsHere bytes born w h p
    → SaysOf (setting_at bytes born h) w from (chunks.Ack stamp count) → Answering Calm bytes born w h p (about_chunk h p from (chunks.Ack stamp count))

-- So is each edit that is told done where a client asks for it.
abbrev pub NumberedEditsAreAnswered : Type 0
NumberedEditsAreAnswered = (bytes : ReqId → List ℕ) (born : ℕ) (w : ChunkWorld) (h : Here) (p : Place) (req : ReqId) (stamp : Stamp) (op : Op) → IsHere bytes born w h p
    → IsToldApart h.block h.chunk p.slot (w.members h.me) → LeadsWhole w h.me → ((b : List ℕ) → h.pushed ≡ Some b → b ≡ bytes req)
    → Answering (Edits stamp req op) bytes born w h p (edit h p req stamp op)

-- What is answered, or passed on, stays so wherever the machine leads.
abbrev pub AnsweredGoesOn : Type 0
AnsweredGoesOn = (c : Setting) (w last : ChunkWorld) (me : ℕ) (under : Stamp) (req : ReqId) (op : Op) (outcome : Told) → IsReached w → Leads w last
    → IsAnswered c w me req outcome ⊎ IsPassed c w under req op outcome → IsAnswered c last me req outcome ⊎ IsPassed c last under req op outcome

-- An edit that is answered is settled, and stays unless a rollback undoes it.
abbrev pub AnsweredIsSettled : Type 0
AnsweredIsSettled = (c : Setting) (w last : ChunkWorld) (me : ℕ) (req : ReqId) (outcome : Told) → IsReached w → Leads w last → (a : IsAnswered c w me req outcome)
    → IsSettledIn w a.stamp (length a.before) a.edit × StaysUnlessUndone last a.stamp (length a.before) a.edit

-- ---- what is taken of a server
-- No copy is told under a stamp of an epoch before the birth of the chunk.
abbrev pub NoCopyIsBeforeBirth : Type 0
NoCopyIsBeforeBirth = (b : Birth) (w : ChunkWorld) → Leads (world_of b) w → (to : ℕ) (t : ℕ) (edits : List Edit) (image : Option (List Edit))
    → WasTold w to (CopyIn t edits image) → b.epoch ≤ epoch_of t

-- A copy of a quiet chunk under a new handle brings the list for which the replica of the old one stands.
abbrev pub CopiesBringTheirLists : Type 0
CopiesBringTheirLists = (b : Birth) (w : ChunkWorld) → Leads (world_of b) w
    → (c old_c : Setting) (chunk handle : ℕ) (s : Server) (at stamp : Stamp) (old now : ChunkWorld) → c.born ≡ b.epoch → old_c.block ≡ c.block → old_c.size ≡ c.size
    → ShowsMember old_c handle now s → IsCopyOf old now at stamp w s.me → BringsCopy c chunk w s (MakeCopy handle at chunk stamp)

-- ---- a server to which nothing happens
-- A server is shown still behind an event of another, or of the master.
abbrev pub EventsOfOthersShowServers : Type 0
EventsOfOthersShowServers = (c : Setting) (chunk : ℕ) (w : ChunkWorld) (e : Event) (s : Server) → IsReached w → Can w e → actor e ≢ Some s.me
    → ((whole : ℕ → Bool) → e ≡ Prepares whole → whole s.me ≡ true → IsWholeAt chunk w s) → ShowsMember c chunk w s → ShowsMember c chunk (happens w e) s

-- So it is wherever the machine leads, while its member is the same.
abbrev pub ServersBesideAreShown : Type 0
ServersBesideAreShown = (c : Setting) (chunk : ℕ) (w last : ChunkWorld) (s : Server) → IsReached w → Leads w last → last.members s.me ≡ w.members s.me
    → (HasPrepared w last → (w.members s.me).intact ≡ true → LiveUndamaged (slot_in chunk s).live) → ShowsMember c chunk w s → ShowsMember c chunk last s

-- So it is where its member is marked, and marked whole only if it may be.
abbrev pub ServersMarkedAreShown : Type 0
ServersMarkedAreShown = (c : Setting) (chunk : ℕ) (w last : ChunkWorld) (s : Server) (whole : Bool) → IsReached w → Leads w last
    → IsSameMember (w.members s.me) whole (last.members s.me) → (HasPrepared w last → last.members s.me ≡ marked (w.members s.me) whole)
    → (whole ≡ true → MayBeWhole chunk last s) → ShowsMember c chunk w s → ShowsMember c chunk last s

-- What a message tells of the machine it tells still where more is said.
abbrev pub WhatWasSaidIsSaidStill : Type 0
WhatWasSaidIsSaidStill = (c : Setting) (chunk : ℕ) (w last : ChunkWorld) (m : Message) → ((x : Sent) → Contains w.sent x → Contains last.sent x) → ServersTell c chunk w m
    → ServersTell c chunk last m

-- ---- blocks of lists
-- An accepted edit leaves each block of the text of the list as it was, or as the replica has it then.
abbrev pub EditedBlocksAreOfReplicas : Type 0
EditedBlocksAreOfReplicas = (block chunk : ℕ) (r r2 : State) (edits : List Edit) (stamp : Stamp) (number : ℕ) (req : ReqId) (op : Applied) (bytes : List ℕ)
    → StandsFor block chunk r.held edits → IsToldFrom block chunk r.held edits → apply stamp number req op bytes r ≡ Ok r2
    → BlocksOf block (replica_of chunk (edits ++ (record { req = req; op = op; bytes = bytes }) ∷ [])).bytes r2.held.chunk.bytes (replica_of chunk edits).bytes

-- So blocks of lists stay among those of replicas.
abbrev pub BlocksStayAmong : Type 0
BlocksStayAmong = (among : List ℕ → Bool) (size : ℕ) (new held old : List ℕ) → BlocksOf size new held old → HasBlocks size among held → HasBlocks size among old
    → HasBlocks size among new

-- Digests tell what a replica keeps from its list, where the blocks of both are among some that they tell apart.
abbrev pub BlocksAmongAreTold : Type 0
BlocksAmongAreTold = (among : List ℕ → Bool) (block chunk : ℕ) (r : Held) (edits : List Edit) → TellsApart among → HasBlocks block among r.chunk.bytes
    → HasBlocks block among (replica_of chunk edits).bytes → IsToldFrom block chunk r edits

-- ---- what digests tell
-- Digests tell what a server keeps, where all blocks are among some that they tell apart.
abbrev pub DigestsTellServersApart : Type 0
DigestsTellServersApart = (among : List ℕ → Bool) (c : Setting) (w : ChunkWorld) (me : ℕ) (s : Slot) → TellsApart among → IsReached w → ListsAmong among c w
    → KeepsAmong among c.block s → IsToldApart c.block c.size s (w.members me)

-- Blocks of lists stay among those at each step of a server.
abbrev pub StepsKeepListsAmong : Type 0
StepsKeepListsAmong = (among : List ℕ → Bool) (c : Setting) (cause : Cause) (chunk : ℕ) (w : ChunkWorld) (me : ℕ) (about : Option ℕ) (after : Server) (sent : List Message)
    → (steps : IsSteps cause c chunk w me about after sent) → ListsAmong among c w → KeepsAmong among c.block (slot_in chunk after) → ListsAmong among c steps.world

-- So they do where a chunk is born as a copy.
abbrev pub CopiesKeepListsAmong : Type 0
CopiesKeepListsAmong = (among : List ℕ → Bool) (c : Setting) (epoch : ℕ) (how : ℕ → EpochEnd) (old : ChunkWorld) (stamp : ℕ) → ListsAmong among c old
    → ListsAmong among c (born epoch how (old.known.list stamp))

-- ---- what clients ask
-- A client that asks has asked that too, under a number of its own.
abbrev pub WhatIsAskedIsNew : Type 0
WhatIsAskedIsNew = (id : ℕ) (asked : Asked) (n n2 : Node) (number : ℕ) (request : Request) (sent : List Message) → HasAsked id asked n
    → asks number request n ≡ Ok (n2, sent) → IsAskedNow id asked number request n2 sent

-- All that it sends then is for a request that it has asked.
abbrev pub WhatIsSentWasAsked : Type 0
WhatIsSentWasAsked = (asked : ℕ → Asked) (id : ℕ) (number : ℕ) (request : Request) (n : Node) (before : Asked) (sent : List Message)
    → IsAskedNow id before number request n sent → asked id ≡ before ++ (number, request) ∷ [] → (m : Message) → Contains sent m → IsSentFor asked m

-- Where one client asks, all clients have asked what they had, and this.
abbrev pub ClientsAskOn : Type 0
ClientsAskOn = (clients : ℕ → Option Node) (asked : ℕ → Asked) (sent : List Message) (id number : ℕ) (request : Request) (n n2 : Node) (new : List Message)
    → AreAsked clients asked sent → clients id ≡ Some n → asks number request n ≡ Ok (n2, new)
    → AreAsked (with_client clients id n2) (with_asked asked id number request) (sent ++ new)

-- Where one client goes on and has asked nothing more, all have asked what they had.
abbrev pub ClientsStayAsked : Type 0
ClientsStayAsked = (clients : ℕ → Option Node) (asked : ℕ → Asked) (sent : List Message) (id : ℕ) (n n2 : Node) → AreAsked clients asked sent → clients id ≡ Some n
    → (HasAsked id (asked id) n → HasAsked id (asked id) n2) → AreAsked (with_client clients id n2) asked sent

-- What others send that is no request changes nothing of that.
abbrev pub OthersAskNothing : Type 0
OthersAskNothing = (clients : ℕ → Option Node) (asked : ℕ → Asked) (sent new : List Message) → AreAsked clients asked sent
    → AllByRecursion (λ (m : Message). IsNoRequest m.body) new → AreAsked clients asked (sent ++ new)
