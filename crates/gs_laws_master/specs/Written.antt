-- What is within its type of all that a master keeps: so each record of each turn can be written, and it is so of what is left.
use Rattle.std.specs.Prelude.{◌≡◌, ◌≤◌, ◌<◌, ◌^◌, ◌&&◌, ℕ, Bool, true, List, [], ◌∷◌, Some, Ok, codes, is_some, length, nat_le, refl, take, Option, None}
use Rattle.std.specs.FinMap as fin
use Rattle.std.specs.List.{list_all, AllByRecursion}
use Rattle.std.specs.Str.{is_utf8}
use Rattle.gs_base.specs.Members.{is_member}
use Rattle.gs_base.specs.Told.{IsNumber}
use Rattle.gs_base.specs.declared.config.Config.{Config}
use Rattle.gs_base.specs.declared.numbers.ClientId.{ClientId}
use Rattle.gs_base.specs.declared.numbers.Moment.{Moment}
use Rattle.gs_base.specs.declared.numbers.Stamp.{Stamp}
use Rattle.gs_edit.specs.View.{NamesView}
use Rattle.gs_msg.specs.declared.body.Body.{Body}
use Rattle.gs_msg.specs.declared.body.Body.TheVariants as bodies
use Rattle.gs_msg.specs.declared.call.Call.{Call}
use Rattle.gs_msg.specs.declared.call.Call.TheVariants as calls
use Rattle.gs_msg.specs.declared.message.Message.{Message}
use Rattle.gs_master_record.specs.Plain.{PlainInverse, PlainNode, UndoAddChunk, UndoCow, UndoCreate, UndoForget, UndoHide, UndoMkdirs, UndoRemove, UndoRename, UndoSnapshot, UndoUnhide}
use Rattle.gs_master_record.specs.Writable.{AreServers, IsHandle, IsPath, IsReply, IsRequest}
use Rattle.gs_path.specs.Element.{is_stored}
use Rattle.gs_path.specs.Path.{Name, Path}
use Rattle.gs_master_spec.specs.Applied.{replayed}
use Rattle.gs_master_spec.specs.Calls.{found_chunk}
use Rattle.gs_master_spec.specs.Durable.{Durable}
use Rattle.gs_master_spec.specs.Handling.{checkpoint, fresh, granted, handle, pressed, proposals, restarted}
use Rattle.gs_master_spec.specs.State.{State, Log, Turn, and_then, for_each}
use Rattle.gs_master_spec.specs.Undoing.{all_undone}
use Rattle.gs_master_spec.specs.Whole.{reply_of}
use Rattle.gs_master_spec.specs.declared.asking.Prepared.{Prepared}
use Rattle.gs_master_spec.specs.declared.pending.Pending.{Pending}
use Rattle.gs_master_spec.specs.declared.pending.Waiting.{Waiting}
use Rattle.gs_master_spec.specs.declared.pending.Waiting.TheVariants as waits
use Rattle.gs_master_spec.specs.declared.reply.KeptReply.{KeptReply}
use Rattle.gs_laws_master.specs.Promises.{IsWritten}
use Rattle.gs_laws_master.specs.Standing.{Event, Comes, IsFirm, IsNamed, run_of, turn_of}

-- ---- what is kept

-- a place in a file as a record tells it
abbrev pub IsIndex : ℕ → Type 0
IsIndex index = index < 2 ^ 32

-- each chunk's number has 64 bits: of those that are settled, and of those whose prepared view is kept
pub record AreLow (d : Durable) : Type 0 where
  pub settled : (chunk : ℕ) → is_some (fin.get d.chunks chunk) ≡ true → IsNumber chunk
  pub prepared : (chunk : ℕ) → is_some (fin.get d.prepared chunk) ≡ true → IsNumber chunk

-- an element of a path as it stands: one that is stored, in UTF-8, and no longer than a hidden name is
abbrev pub is_spelled : Name → Bool
is_spelled name = is_stored name && (is_utf8 name && nat_le (length name) 251)

abbrev pub AreSpelled : NamesView → Type 0
AreSpelled names = (path : Path) → is_some (fin.get names.tree path) ≡ true → list_all is_spelled path ≡ true

-- so is each now, and in the names to which a rollback leads back
pub record HasSpelled (d : Durable) : Type 0 where
  pub now : AreSpelled d.names
  pub before : (names : NamesView) → all_undone d.inverses d.names ≡ Some names → AreSpelled names

-- each reply, as a checkpoint tells it
abbrev pub AreReplies : Durable → Type 0
AreReplies d = (client : ClientId) (reply : KeptReply) → fin.get d.replies client ≡ Some reply → IsReply (reply_of (client, reply))

-- and who holds each chunk whose prepared view is kept
abbrev pub AreHolders : Durable → Type 0
AreHolders d = (chunk : ℕ) (prepared : Prepared) → fin.get d.prepared chunk ≡ Some prepared → AreServers prepared.holders

-- the chunks of a file, as handles; a directory has none
abbrev pub AreHandles : Option (List ℕ) → Type 0
AreHandles None = Unit {0}
AreHandles (Some chunks) = AllByRecursion IsHandle chunks

-- what takes an edit back can be told, but perhaps for the lengths of its lists
abbrev pub IsToldBack : PlainInverse → Type 0
IsToldBack (UndoMkdirs paths) = AllByRecursion IsPath paths
IsToldBack (UndoCreate paths) = AllByRecursion IsPath paths
IsToldBack (UndoRename now before) = IsPath now × IsPath before
IsToldBack (UndoHide now before) = IsPath now × IsPath before
IsToldBack (UndoUnhide now before) = IsPath now × IsPath before
IsToldBack (UndoRemove nodes) = AllByRecursion (λ (n : PlainNode). IsPath n.0 × AreHandles n.1) nodes
IsToldBack (UndoAddChunk path) = IsPath path
IsToldBack (UndoCow path index old) = IsPath path × (IsIndex index × IsHandle old)
IsToldBack (UndoSnapshot path) = IsPath path
IsToldBack (UndoForget chunks) = AllByRecursion IsHandle chunks

-- the paths and the index of a call that waits, as the records of its edits tell them
abbrev pub IsTakenWaiting : Waiting → Type 0
IsTakenWaiting (waits.Extend path new) = IsPath path
IsTakenWaiting (waits.Lease path index leased) = IsPath path × IsIndex index
IsTakenWaiting (waits.Quiet path index quiet) = IsPath path × IsIndex index
IsTakenWaiting (waits.Copy path index old new) = IsPath path × IsIndex index
IsTakenWaiting (waits.Snapshot from to) = IsPath from × IsPath to
IsTakenWaiting (waits.Replicate copied target) = Unit {0}

-- and its request
abbrev pub IsTaken : Pending → Type 0
IsTaken p = IsRequest p.req × IsTakenWaiting p.waits

-- Each chunk's number has 64 bits, also that of a chunk which is new; each element of a path is spelled; each reply, each holder, what takes each
-- edit back and each call that waits can be told.
pub record IsWithin (s : State) : Type 0 where
  pub low : AreLow s.durable
  pub spelled : HasSpelled s.durable
  pub replies : AreReplies s.durable
  pub holders : AreHolders s.durable
  pub back : AllByRecursion IsToldBack s.durable.inverses
  pub unplaced : (chunk : ℕ) → is_member s.volatile.unplaced chunk ≡ true → IsNumber chunk
  pub calls : AllByRecursion IsTaken s.volatile.pending

-- ---- what comes

-- where a chunk is found for writing, a record can tell its place in its file
abbrev pub IsMet : NamesView → Call → Type 0
IsMet names (calls.FindForWriting path index stamp) = (chunk : ℕ) → found_chunk (fin.get names.tree path) index ≡ Ok chunk → IsIndex index
IsMet names call = Unit {0}

-- and its request is one of its type
abbrev pub IsHeardBody : NamesView → Body → Type 0
IsHeardBody names (bodies.Call req call) = IsRequest req × IsMet names call
IsHeardBody names said = Unit {0}

abbrev pub IsHeardIn : State → Event → Type 0
IsHeardIn s (Comes message moment) = IsHeardBody s.durable.names message.body
IsHeardIn s event = Unit {0}

-- ---- what is to hold

-- A master that is firm and within its types, on a journal that has no more bytes than its limit, which is one of 32 bits.
pub record IsSteady (s : State) : Type 0 where
  pub firm : IsFirm s
  pub within : IsWithin s
  pub room : s.log.size ≤ s.log.limit
  pub limit : s.log.limit < 2 ^ 32

-- each record can be written, and the master is left so
pub record WritesAll (t : Turn) : Type 0 where
  pub written : IsWritten t
  pub steady : IsSteady t.after

-- A new store is so.
abbrev pub StartsSteady : Type 0
StartsSteady = (log : Log) → log.size ≤ log.limit → log.limit < 2 ^ 32 → IsSteady (fresh log)

-- Each record of each message can be written, whoever sends it,
abbrev pub MessagesWritten : Type 0
MessagesWritten = (config : Config) (s : State) (message : Message) (moment : Moment) → IsNamed (Comes message moment) → IsHeardIn s (Comes message moment) → IsSteady s → WritesAll (handle config s message moment)

-- so can each of each step of a tick,
abbrev pub StepsWritten : Type 0
StepsWritten = (s : State) (moment : Moment) (proposal : ℕ × Stamp) → IsSteady s → WritesAll (pressed moment proposal s)

-- and of all its steps together.
abbrev pub AllStepsWritten : Type 0
AllStepsWritten = (s : State) (moment : Moment) → IsSteady s → WritesAll (and_then (for_each s (proposals s) (pressed moment)) granted)

-- So can the record of a checkpoint, if it has room.
abbrev pub CheckpointsWritten : Type 0
CheckpointsWritten = (s : State) → IsSteady s → IsWritten (checkpoint s)

-- So it is of every event.
abbrev pub EventsWritten : Type 0
EventsWritten = (config : Config) (s : State) (event : Event) → IsNamed event → IsHeardIn s event → IsSteady s → WritesAll (turn_of config s event)

-- A restart on its records before a place of it, whichever, and on as many bytes as have room, finds a steady master too,
abbrev pub EventsWrittenAtPlaces : Type 0
EventsWrittenAtPlaces = (config : Config) (s : State) (event : Event) (place : ℕ) (d : Durable) (log : Log) → IsNamed event → IsHeardIn s event → IsSteady s → replayed s.durable (take place (turn_of config s event).records) ≡ Some d
    → log.size ≤ log.limit → log.limit < 2 ^ 32 → IsSteady (restarted d log)

-- so does one on those of all steps of a tick, where memory for its checkpoint is wanting.
abbrev pub AllStepsWrittenAtPlaces : Type 0
AllStepsWrittenAtPlaces = (s : State) (moment : Moment) (place : ℕ) (d : Durable) (log : Log) → IsSteady s → replayed s.durable (take place (and_then (for_each s (proposals s) (pressed moment)) granted).records) ≡ Some d
    → log.size ≤ log.limit → log.limit < 2 ^ 32 → IsSteady (restarted d log)

-- And each record of every run can be written.
abbrev pub AreHeardIn : Config → State → List Event → Type 0
AreHeardIn config s [] = Unit {0}
AreHeardIn config s (event ∷ events) = IsHeardIn s event × AreHeardIn config (turn_of config s event).after events

abbrev pub RunsWritten : Type 0
RunsWritten = (config : Config) (s : State) (events : List Event) → AllByRecursion IsNamed events → AreHeardIn config s events → IsSteady s → WritesAll (run_of config s events)

-- ---- examples

abbrev f : Path
f = codes "f" ∷ []

-- of a call that waits for a copy there is nothing to tell
a_replicate : IsTakenWaiting (waits.Replicate 7 1) ≡ Unit {0}
a_replicate = refl

a_copy_on_write : IsTakenWaiting (waits.Copy f 3 7 8) ≡ (IsPath f × IsIndex 3)
a_copy_on_write = refl

what_a_look_up_meets : (names : NamesView) → IsMet names (calls.Status f) ≡ Unit {0}
what_a_look_up_meets names = refl

no_inverse_of_chunks : IsToldBack (UndoForget []) ≡ Unit {0}
no_inverse_of_chunks = refl
