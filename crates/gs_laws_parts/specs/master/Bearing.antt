-- A chunk that isn't born yet, over a chain of moves and over an event: it stays so, or is born in its course.
use Rattle.std.specs.Prelude.{◌≡◌, ◌⊎◌, ◌<◌, ◌≤◌, ℕ, List, [], length, take, Some}
use Rattle.std.specs.List.{AllByRecursion}
use Rattle.gs_base.specs.declared.config.Config.{Config}
use Rattle.gs_lease.specs.declared.view.View.{View}
use Rattle.gs_msg.specs.declared.message.Message.{Message}
use Rattle.gs_replica.specs.Stands.{Edit}
use Rattle.gs_master_spec.specs.Applied.{replayed}
use Rattle.gs_master_spec.specs.Durable.{Durable}
use Rattle.gs_master_spec.specs.Handling.{restarted}
use Rattle.gs_master_spec.specs.State.{State, Log, Turn}
use Rattle.gs_laws_master.specs.Promises.{IsKept, IsWritten}
use Rattle.gs_laws_master.specs.Standing.{Event, IsNamed, turn_of}
use Rattle.gs_laws_master.specs.Written.{IsHeardIn, IsSteady}
use Rattle.gs_laws_moves.specs.moves.Asked.{WasHeard}
use Rattle.gs_laws_moves.specs.moves.Guards.{Heard, IsMade, MayCopy}
use Rattle.gs_laws_moves.specs.moves.Laws.{IsMadeWell, heard_in, met_in}
use Rattle.gs_laws_moves.specs.moves.Moves.{Chain}
use Rattle.gs_laws_chunk.specs.machine.Laws.{Birth, IsNumbered, world_of}
use Rattle.gs_laws_chunk.specs.machine.Mastering.{AreOfMaster}
use Rattle.gs_laws_chunk.specs.machine.Machine.{ChunkWorld}
use Rattle.gs_laws_chunk.specs.machine.Events.{Leads, no_member}
use Rattle.gs_laws_chunk.specs.machine.Numbering.{IsBehind}
use Rattle.gs_laws_parts.specs.master.Births.{Brings}
use Rattle.gs_laws_parts.specs.master.Showing.{IsPast, Rises}
use Rattle.gs_laws_parts.specs.master.Telling.{Says, Shows, MastersTell}
use Rattle.gs_laws_parts.specs.master.Unborn.{IsUnborn, StaysUnborn, silent}

-- A machine is born with these edits, in the epoch of what was durable or a later one, and events lead to where the state is shown, and all is told that is sent. No
-- server has changed. No view of it is of a stamp below one that was given then.
pub record IsBornWithin (chunk : ℕ) (origin : List Edit) (first : Durable) (u : State) (messages : List Message) : Type 0 where
  pub birth : Birth
  pub begins : birth.origin ≡ origin
  pub later : first.epoch ≤ birth.epoch
  pub world : ChunkWorld
  pub leads : Leads (world_of birth) world
  pub masters : AreOfMaster (world_of birth) world leads
  pub members : (j : ℕ) → world.members j ≡ no_member birth.epoch
  pub shows : Shows chunk u world
  pub fresh : (top : ℕ) → IsPast first top → IsBehind top world.known
  pub tells : AllByRecursion (MastersTell birth.epoch chunk world) messages
  pub brings : AllByRecursion (Brings birth.epoch chunk origin world) messages

-- It is copied from an old one, behind some moves, with whatever edits it is given: they are to be those of the old one by its view there.
pub record IsCopiedWithin (config : Config) (heard : Heard) (chunk : ℕ) (s u : State) (messages : List Message) : Type 0 where
  pub before : Turn
  pub chain : Chain config (IsMadeWell config heard) s before
  pub old : ℕ
  pub view : View
  pub may : MayCopy before.after old view
  pub born : (origin : List Edit) → IsNumbered origin → IsBornWithin chunk origin s.durable u messages

-- it stays unborn, is made, or is copied
abbrev pub GoesOnUnborn : Config → Heard → ℕ → State → Turn → Type 0
GoesOnUnborn config heard chunk s t = StaysUnborn chunk s t ⊎ (IsBornWithin chunk [] s.durable t.after t.sent ⊎ IsCopiedWithin config heard chunk s t.after t.sent)

-- So it is over each chain of moves, where servers say nothing of the chunk,
abbrev pub ChainsGoUnborn : Type 0
ChainsGoUnborn = (chunk : ℕ) (config : Config) (heard : Heard) (s : State) (t : Turn) → WasHeard (Says chunk silent) heard → Chain config (IsMadeWell config heard) s t → IsUnborn chunk s → GoesOnUnborn config heard chunk s t

-- and over each event of a steady master.
abbrev pub EventsGoUnborn : Type 0
EventsGoUnborn = (chunk : ℕ) (config : Config) (s : State) (event : Event) → IsNamed event → IsHeardIn s event → IsSteady s → WasHeard (Says chunk silent) (heard_in event) → IsUnborn chunk s
    → GoesOnUnborn config (heard_in event) chunk (met_in s event) (turn_of config s event)

-- Where an event's append fails at a record, and the master is started again on those before it: nothing was sent.
abbrev pub IsUnbornAgain : Config → Heard → ℕ → State → State → Type 0
IsUnbornAgain config heard chunk s u = (IsUnborn chunk u × Rises s.durable u.durable) ⊎ (IsBornWithin chunk [] s.durable u [] ⊎ IsCopiedWithin config heard chunk s u [])

abbrev pub EventsCutGoUnborn : Type 0
EventsCutGoUnborn = (chunk : ℕ) (config : Config) (s : State) (event : Event) (place : ℕ) (d : Durable) (log : Log) → IsNamed event → IsHeardIn s event → IsSteady s → place < length (turn_of config s event).records
    → replayed s.durable (take place (turn_of config s event).records) ≡ Some d → WasHeard (Says chunk silent) (heard_in event) → IsUnborn chunk s → IsUnbornAgain config (heard_in event) chunk (met_in s event) (restarted d log)

-- So it is of a chain whose records can be written, where what is durable stands at its beginning; and of the master that is started again on any
-- of its first records, or on all of them.
abbrev pub WrittenChainsGoUnborn : Type 0
WrittenChainsGoUnborn = (chunk : ℕ) (config : Config) (heard : Heard) (s : State) (t : Turn) → WasHeard (Says chunk silent) heard → Chain config (IsMade config heard) s t → IsWritten t → IsKept s.durable → IsUnborn chunk s → GoesOnUnborn config heard chunk s t

abbrev pub WrittenCutsGoUnborn : Type 0
WrittenCutsGoUnborn = (chunk : ℕ) (config : Config) (heard : Heard) (s : State) (t : Turn) (many : ℕ) (d : Durable) (log : Log) → WasHeard (Says chunk silent) heard → Chain config (IsMade config heard) s t → IsWritten t → IsKept s.durable
    → replayed s.durable (take many t.records) ≡ Some d → IsUnborn chunk s → IsUnbornAgain config heard chunk s (restarted d log)
