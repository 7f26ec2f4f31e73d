-- What is to hold of each move, of a chain of moves, where one is cut, and of each event.
use Rattle.std.specs.Prelude.{◌≡◌, ◌≢◌, ◌<◌, ◌≤◌, ℕ, Bool, true, [], length, take, is_some, Some}
use Rattle.gs_base.specs.declared.config.Config.{Config}
use Rattle.gs_base.specs.declared.numbers.Moment.{Moment}
use Rattle.gs_master_spec.specs.Applied.{replayed}
use Rattle.gs_master_spec.specs.Durable.{Durable}
use Rattle.gs_master_spec.specs.Handling.{granted, pressed, proposals, restarted}
use Rattle.gs_master_spec.specs.State.{State, Log, Turn, and_then, for_each}
use Rattle.gs_laws_master.specs.Promises.{AllFit, IsKept, IsWritten}
use Rattle.gs_laws_master.specs.Standing.{Event, IsFirm, IsNamed, turn_of}
use Rattle.gs_laws_master.specs.Written.{IsHeardIn, IsSteady}
use Rattle.gs_laws_moves.specs.moves.Asked.{WasHeard}
use Rattle.gs_laws_moves.specs.moves.Guards.{Heard, IsMade}
use Rattle.gs_laws_moves.specs.moves.Laws.{IsCutAt, IsMadeWell, heard_in}
use Rattle.gs_laws_moves.specs.moves.Moves.{Chain, Move, move_turn}
use Rattle.gs_laws_chunk.specs.machine.Machine.{ChunkWorld}
use Rattle.gs_laws_chunk.specs.machine.Events.{Leads}
use Rattle.gs_laws_chunk.specs.machine.Lists.{ListsAreOld}
use Rattle.gs_laws_chunk.specs.machine.Laws.{IsReached}
use Rattle.gs_laws_chunk.specs.machine.Mastering.{AreOfMaster}
use Rattle.gs_laws_parts.specs.master.Single.{AsOf, FollowsAs}
use Rattle.gs_laws_parts.specs.master.Telling.{FollowsMaster, Shows, Spares}
use Rattle.gs_laws_parts.specs.master.Telling as telling

-- the servers that are whole have live replicas
abbrev pub AreLive : (ℕ → Bool) → ChunkWorld → Type 0
AreLive whole w = (j : ℕ) → whole j ≡ true → is_some (w.members j).live ≡ true

-- Where a state is shown, and what is heard was said in the machine, each move that is made where what is durable stands is some events of it,
abbrev pub MovesFollow : Type 0
MovesFollow = (born chunk : ℕ) (whole : ℕ → Bool) (config : Config) (heard : Heard) (s : State) (move : Move) (w : ChunkWorld) → AreLive whole w → Shows chunk s w → WasHeard (telling.Says chunk w) heard → IsMadeWell config heard s move
    → FollowsMaster born chunk whole w (move_turn config s move).after (move_turn config s move).sent

-- and its world is as such a move leaves it.
abbrev pub MovesFollowAs : Type 0
MovesFollowAs = (born chunk : ℕ) (whole : ℕ → Bool) (config : Config) (heard : Heard) (s : State) (move : Move) (w : ChunkWorld) → AreLive whole w → Shows chunk s w → WasHeard (telling.Says chunk w) heard → IsMadeWell config heard s move
    → FollowsAs born chunk whole w (move_turn config s move).after (move_turn config s move).sent (λ v. IsReached w → AsOf chunk move (move_turn config s move).after w v)

-- So is each chain of them,
abbrev pub ChainsFollow : Type 0
ChainsFollow = (born chunk : ℕ) (whole : ℕ → Bool) (config : Config) (heard : Heard) (s : State) (t : Turn) (w : ChunkWorld) → AreLive whole w → Shows chunk s w → WasHeard (telling.Says chunk w) heard → Chain config (IsMadeWell config heard) s t
    → FollowsMaster born chunk whole w t.after t.sent

-- so is a chain of moves that are made, from where what is durable stands, if each record can be written,
abbrev pub WrittenChainsFollow : Type 0
WrittenChainsFollow = (born chunk : ℕ) (whole : ℕ → Bool) (config : Config) (heard : Heard) (s : State) (t : Turn) (w : ChunkWorld) → AreLive whole w → Shows chunk s w → WasHeard (telling.Says chunk w) heard → IsKept s.durable → IsWritten t
    → Chain config (IsMade config heard) s t → FollowsMaster born chunk whole w t.after t.sent

-- and the master that is started again on the records before a place where it is cut,
abbrev pub CutsFollow : Type 0
CutsFollow = (born chunk : ℕ) (whole : ℕ → Bool) (config : Config) (heard : Heard) (s : State) (t : Turn) (place : ℕ) (d : Durable) (log : Log) (w : ChunkWorld) → AreLive whole w → Shows chunk s w → WasHeard (telling.Says chunk w) heard
    → IsCutAt config (IsMadeWell config heard) s t place → replayed s.durable (take place t.records) ≡ Some d → IsKept d → FollowsMaster born chunk whole w (restarted d log) []

-- on some of its records, or all,
abbrev pub PartsFollow : Type 0
PartsFollow = (born chunk : ℕ) (whole : ℕ → Bool) (config : Config) (heard : Heard) (s : State) (t : Turn) (many : ℕ) (d : Durable) (log : Log) (w : ChunkWorld) → AreLive whole w → Shows chunk s w → WasHeard (telling.Says chunk w) heard → IsKept s.durable → IsWritten t
    → Chain config (IsMade config heard) s t → many ≤ length t.records → replayed s.durable (take many t.records) ≡ Some d → FollowsMaster born chunk whole w (restarted d log) []

-- or on all that is durable.
abbrev pub RestartsFollow : Type 0
RestartsFollow = (born chunk : ℕ) (whole : ℕ → Bool) (s : State) (log : Log) (w : ChunkWorld) → Shows chunk s w → IsKept s.durable → FollowsMaster born chunk whole w (restarted s.durable log) []

-- So is each event of a steady master: each message, whoever sends it, each tick, a checkpoint, and a restart.
abbrev pub EventsFollow : Type 0
EventsFollow = (born chunk : ℕ) (whole : ℕ → Bool) (config : Config) (s : State) (event : Event) (w : ChunkWorld) → IsNamed event → IsHeardIn s event → IsSteady s → AreLive whole w → Shows chunk s w → WasHeard (telling.Says chunk w) (heard_in event)
    → FollowsMaster born chunk whole w (turn_of config s event).after (turn_of config s event).sent

-- So is a tick that is done without the checkpoint that is due, where memory is wanting for that one.
abbrev pub TicksFollow : Type 0
TicksFollow = (born chunk : ℕ) (whole : ℕ → Bool) (config : Config) (s : State) (moment : Moment) (w : ChunkWorld) → IsFirm s → let t = and_then (for_each s (proposals s) (pressed moment)) granted in AllFit s t → IsWritten t → AreLive whole w → Shows chunk s w
    → FollowsMaster born chunk whole w t.after t.sent

-- And so is the master that is started again on the records of an event before a place, at which its append failed.
abbrev pub EventsCutFollow : Type 0
EventsCutFollow = (born chunk : ℕ) (whole : ℕ → Bool) (config : Config) (s : State) (event : Event) (place : ℕ) (d : Durable) (log : Log) (w : ChunkWorld) → IsNamed event → IsHeardIn s event → IsSteady s → place < length (turn_of config s event).records
    → replayed s.durable (take place (turn_of config s event).records) ≡ Some d → AreLive whole w → Shows chunk s w → WasHeard (telling.Says chunk w) (heard_in event) → FollowsMaster born chunk whole w (restarted d log) []

-- ---- what the master leaves

-- What each server has reached under each stamp, has promised and has learned stays as it is, and lists of views are made of the first edits of others.
pub record LeavesKnown (w v : ChunkWorld) : Type 0 where
  pub reached : v.known.reached ≡ w.known.reached
  pub promise : v.known.promise ≡ w.known.promise
  pub epoch : v.known.epoch ≡ w.known.epoch
  pub lists : ListsAreOld w v

-- So it is of each run of events of the master's part.
abbrev pub MastersLeave : Type 0
MastersLeave = (w v : ChunkWorld) (leads : Leads w v) → AreOfMaster w v leads → LeavesKnown w v

abbrev pub MastersSpare : Type 0
MastersSpare = (w v : ChunkWorld) (leads : Leads w v) → AreOfMaster w v leads → Spares w v
