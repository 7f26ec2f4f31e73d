-- What each event has room for, whom it counts as having told of a chunk, and what a snapshot copies.
use Rattle.std.specs.Prelude.{◌≡◌, ◌⊎◌, ◌≤◌, ◌<◌, ◌==◌, ◌&&◌, ◌||◌, ◌+◌, ℕ, Bool, true, false, not, List, [], ◌∷◌, fold, length, Some, None}
use Rattle.std.specs.FinMap as fin
use Rattle.std.specs.List.{list_all}
use Rattle.std.specs.Ordering.{nat_cmp}
use Rattle.gs_base.specs.Members.{is_member}
use Rattle.gs_base.specs.declared.config.Config.{Config}
use Rattle.gs_base.specs.declared.numbers.Moment.{Moment}
use Rattle.gs_base.specs.declared.numbers.Stamp.{Stamp}
use Rattle.gs_msg.specs.declared.body.Body.TheVariants as bodies
use Rattle.gs_msg.specs.declared.message.Message.{Message}
use Rattle.gs_msg.specs.declared.node.NodeId.TheVariants as nodes
use Rattle.gs_master_record.specs.Plain.{PlainEntry, Edited, RollbackCommit, Snapshot}
use Rattle.gs_master_record.specs.declared.entry.Answered.{Answered}
use Rattle.gs_master_spec.specs.Applied.{applied, is_whole_entry}
use Rattle.gs_master_spec.specs.Durable.{Durable, Settled, is_rolling}
use Rattle.gs_master_spec.specs.Handling.{granted, handle, pressed, proposals, tick}
use Rattle.gs_master_spec.specs.State.{State, Turn, and_then, fits, for_each, is_failed}
use Rattle.gs_master_spec.specs.Upgrades.{told_of}
use Rattle.gs_master_spec.specs.Volatile.{with_restored}
use Rattle.gs_tree.specs.Chunks.{visible_chunks_under}
use Rattle.gs_laws_master.specs.Standing.{Event, Restarts, run_of, turn_of}

-- ---- room

-- the records of a turn are none, or have room in the log that it met
abbrev pub HasRoom : State → Turn → Type 0
HasRoom s t = (t.records ≡ []) ⊎ (fits s.log t.records ≡ true)

-- so have those of each message, whoever sends it
abbrev pub MessagesHaveRoom : Type 0
MessagesHaveRoom = (config : Config) (s : State) (message : Message) (moment : Moment) → HasRoom s (handle config s message moment)

-- of each step of a tick, in the state that it meets
abbrev pub StepsHaveRoom : Type 0
StepsHaveRoom = (s : State) (moment : Moment) (proposal : ℕ × Stamp) → HasRoom s (pressed moment proposal s)

-- and of all steps of a tick together
abbrev pub TicksHaveRoom : Type 0
TicksHaveRoom = (s : State) (moment : Moment) → HasRoom s (and_then (for_each s (proposals s) (pressed moment)) granted)

-- So no event takes the log beyond its limit, and none changes the limit,
abbrev pub LogsStayWithin : Type 0
LogsStayWithin = (config : Config) (s : State) (event : Event) → s.log.size ≤ s.log.limit →
    let now = (turn_of config s event).after.log in (now.size ≤ now.limit) × (now.limit ≡ s.log.limit)

-- and so no run does.
abbrev pub RunsStayWithin : Type 0
RunsStayWithin = (config : Config) (events : List Event) (s : State) → s.log.size ≤ s.log.limit →
    let now = (run_of config s events).after.log in (now.size ≤ now.limit) × (now.limit ≡ s.log.limit)

-- ---- what a log counts

-- a record that isn't a checkpoint
abbrev pub is_behind : PlainEntry → Bool
is_behind entry = not (is_whole_entry entry)

-- the log counts each record of a turn, and none is a checkpoint
pub record IsCounted (s : State) (t : Turn) : Type 0 where
  pub count : t.after.log.records ≡ s.log.records + length t.records
  pub behind : list_all is_behind t.records ≡ true

-- so it is of each message, whoever sends it,
abbrev pub MessagesCounted : Type 0
MessagesCounted = (config : Config) (s : State) (message : Message) (moment : Moment) → IsCounted s (handle config s message moment)

-- and of all steps of a tick together
abbrev pub TicksCounted : Type 0
TicksCounted = (s : State) (moment : Moment) → IsCounted s (and_then (for_each s (proposals s) (pressed moment)) granted)

-- ---- who has told of a chunk

-- a server tells which chunks it has as they were sealed, in the epoch of the rollback that is begun
pub record TellsHandles (s : State) (message : Message) (server : ℕ) (handles : List ℕ) : Type 0 where
  pub from : message.from ≡ nodes.Server server
  pub said : message.body ≡ bodies.Learned s.durable.epoch handles
  pub begun : is_rolling s.durable.phase ≡ true
  pub sound : is_failed s.fault ≡ false

abbrev pub restored_in : State → fin.FinMap nat_cmp (List ℕ)
restored_in s = s.volatile.restored

-- Then it is added for those.
abbrev pub TellsAdd : Type 0
TellsAdd = (config : Config) (s : State) (message : Message) (moment : Moment) (server : ℕ) (handles : List ℕ) → TellsHandles s message server handles →
    restored_in (handle config s message moment).after ≡ fold (with_restored server) (restored_in s) handles

-- So who has told of a chunk is who had, and this server, where it names the chunk.
abbrev pub TellsOf : Type 0
TellsOf = (config : Config) (s : State) (message : Message) (moment : Moment) (server : ℕ) (handles : List ℕ) (chunk other : ℕ) → TellsHandles s message server handles → other < 16 →
    is_member (told_of (handle config s message moment).after chunk) other ≡ (is_member (told_of s chunk) other || ((other == server) && is_member handles chunk))

-- the commit of the rollback is recorded
abbrev pub CommitsRollback : State → Turn → Type 0
CommitsRollback s t = (answers : List Answered) × (t.records ≡ RollbackCommit s.durable.epoch answers ∷ [])

-- Any other message leaves who has told, but the commit of the rollback, behind which nobody has.
abbrev pub OthersLeave : Type 0
OthersLeave = (config : Config) (s : State) (message : Message) (moment : Moment) → ((server : ℕ) (handles : List ℕ) → TellsHandles s message server handles → ⊥) →
    let t = handle config s message moment in (restored_in t.after ≡ restored_in s) ⊎ (CommitsRollback s t × (restored_in t.after ≡ fin.empty))

-- and so does each tick,
abbrev pub TicksLeave : Type 0
TicksLeave = (s : State) (moment : Moment) → restored_in (tick s moment).after ≡ restored_in s

-- and its steps alone, where memory for its checkpoint is wanting.
abbrev pub StepsLeave : Type 0
StepsLeave = (s : State) (moment : Moment) → restored_in (and_then (for_each s (proposals s) (pressed moment)) granted).after ≡ restored_in s

-- A restart forgets who has.
abbrev pub RestartsForget : Type 0
RestartsForget = (config : Config) (s : State) → restored_in (turn_of config s Restarts).after ≡ fin.empty

-- Where no rollback is begun nobody has told of anything, and so it is behind each event. So whoever has told has told since it was begun.
abbrev pub NoneHasTold : State → Type 0
NoneHasTold s = is_rolling s.durable.phase ≡ false → restored_in s ≡ fin.empty

abbrev pub TellsSince : Type 0
TellsSince = (config : Config) (s : State) (event : Event) → NoneHasTold s → NoneHasTold (turn_of config s event).after

-- ---- snapshots

-- the chunk has no primary, and no other view is proposed
abbrev pub IsStill : Settled → Type 0
IsStill settled = (settled.is_moving ≡ false) × (settled.view.term ≡ None)

-- each chunk that a snapshot copies is so, in what is durable as its record meets it
abbrev pub CopiesStill : Durable → PlainEntry → Type 0
CopiesStill d (Edited by (Snapshot from to)) = (chunk : ℕ) (settled : Settled) → is_member (visible_chunks_under from (fin.entries d.names.tree)) chunk ≡ true → fin.get d.chunks chunk ≡ Some settled → IsStill settled
CopiesStill d entry = Unit {0}

-- and of each of these records
abbrev pub AllCopyStill : Durable → List PlainEntry → Type 0
AllCopyStill d [] = Unit {0}
AllCopyStill d (entry ∷ entries) = CopiesStill d entry × ((next : Durable) → applied d entry ≡ Some next → AllCopyStill next entries)

-- So it is of each message, and at each tick.
abbrev pub MessagesCopyStill : Type 0
MessagesCopyStill = (config : Config) (s : State) (message : Message) (moment : Moment) → AllCopyStill s.durable (handle config s message moment).records

abbrev pub TicksCopyStill : Type 0
TicksCopyStill = (s : State) (moment : Moment) → AllCopyStill s.durable (tick s moment).records
