-- What is to hold of each event of the master.
use Rattle.std.specs.Prelude.{◌≡◌, ◌<◌, ◌++◌, ℕ, length, slice_get, take, List, Some, None, refl}
use Rattle.gs_base.specs.declared.config.Config.{Config}
use Rattle.gs_base.specs.declared.numbers.Moment.{Moment}
use Rattle.gs_base.specs.declared.numbers.ReqId.{ReqId}
use Rattle.gs_msg.specs.declared.body.Body.{Body}
use Rattle.gs_msg.specs.declared.body.Body.TheVariants as bodies
use Rattle.gs_msg.specs.declared.call.Call.{Call}
use Rattle.gs_msg.specs.declared.node.NodeId.{NodeId}
use Rattle.gs_msg.specs.declared.node.NodeId.TheVariants as nodes
use Rattle.gs_master_spec.specs.Applied.{replayed}
use Rattle.gs_master_spec.specs.Durable.{Durable}
use Rattle.gs_master_spec.specs.Handling.{granted, pressed, proposals, restarted}
use Rattle.gs_master_spec.specs.State.{State, Turn, and_then, for_each}
use Rattle.gs_laws_master.specs.Promises.{AllFit, IsKept, IsWritten}
use Rattle.gs_laws_master.specs.Standing.{Event, Ticks, Comes, Restarts, IsFirm, IsNamed, turn_of}
use Rattle.gs_laws_master.specs.Written.{IsHeardIn, IsSteady}
use Rattle.gs_laws_moves.specs.moves.Guards.{Heard, IsMade}
use Rattle.gs_laws_moves.specs.moves.Moves.{Chain, Move, move_turn}

abbrev pub said_from : NodeId → Body → Heard
said_from (nodes.Server server) body = Some (server, body)
said_from (nodes.Client client) (bodies.Call req call) = Some (client.0, bodies.Call req call)
said_from node body = None

-- what a server has said in an event, or a client has called
abbrev pub heard_in : Event → Heard
heard_in (Comes message moment) = said_from message.from message.body
heard_in event = None

-- a restart drops what is in memory first
abbrev pub met_in : State → Event → State
met_in s Restarts = restarted s.durable s.log
met_in s event = s

-- Each event of a firm master is a chain of moves, each of which is made so.
abbrev pub EventsAreChains : Type 0
EventsAreChains = (config : Config) (s : State) (event : Event) → IsNamed event → IsFirm s → Chain config (IsMade config (heard_in event)) (met_in s event) (turn_of config s event)

-- So is what a tick does before it writes a checkpoint that is due, where memory is wanting for that one.
abbrev pub TicksAreChains : Type 0
TicksAreChains = (config : Config) (s : State) (moment : Moment) → IsFirm s → AllFit s (and_then (for_each s (proposals s) (pressed moment)) granted) → Chain config (IsMade config None) s (and_then (for_each s (proposals s) (pressed moment)) granted)

-- ---- what stands

-- A move is made where what is durable stands, and leaves it so.
pub record IsMadeWell (config : Config) (heard : Heard) (s : State) (move : Move) : Type 0 where
  pub made : IsMade config heard s move
  pub before : IsKept s.durable
  pub behind : IsKept (move_turn config s move).after.durable

-- So it is of each move of a chain whose records can all be written, from where it stands,
pub record IsChainWell (config : Config) (heard : Heard) (s : State) (t : Turn) : Type 0 where
  pub chain : Chain config (IsMadeWell config heard) s t
  pub behind : IsKept t.after.durable

abbrev pub ChainsStand : Type 0
ChainsStand = (config : Config) (heard : Heard) (s : State) (t : Turn) → Chain config (IsMade config heard) s t → IsWritten t → IsKept s.durable → IsChainWell config heard s t

-- and so of each event of a steady master.
abbrev pub EventsStand : Type 0
EventsStand = (config : Config) (s : State) (event : Event) → IsNamed event → IsHeardIn s event → IsSteady s → IsChainWell config (heard_in event) (met_in s event) (turn_of config s event)

-- ---- a disk fails

-- The records before a place are those of some moves, and some of the next one, which comes next.
pub record IsCutAt (config : Config) (Holds : State → Move → Type 0) (s : State) (t : Turn) (place : ℕ) : Type 0 where
  pub before : Turn
  pub move : Move
  pub many : ℕ
  pub chain : Chain config Holds s before
  pub holds : Holds before.after move
  pub within : many < length (move_turn config before.after move).records
  pub stand : take place t.records ≡ before.records ++ take many (move_turn config before.after move).records
  pub doubt : slice_get t.records place ≡ slice_get (move_turn config before.after move).records many

-- so it is of each chain, whatever holds of its moves
abbrev pub CutsAreBeginnings : (State → Move → Type 0) → Type 0
CutsAreBeginnings Holds = (config : Config) (s : State) (t : Turn) (place : ℕ) → Chain config Holds s t → place < length t.records → IsCutAt config Holds s t place

-- And what is durable behind the records before it stands too, if each record can be written.
abbrev pub CutsStand : Type 0
CutsStand = (config : Config) (heard : Heard) (s : State) (t : Turn) (place : ℕ) (d : Durable) → IsCutAt config (IsMadeWell config heard) s t place → IsWritten t → replayed s.durable (take place t.records) ≡ Some d → IsKept d

-- ---- examples

a_call_is_heard : (req : ReqId) (call : Call) → said_from (nodes.Client (record { 0 = 1 })) (bodies.Call req call) ≡ Some (1, bodies.Call req call)
a_call_is_heard req call = refl

nothing_else_is_heard_of_a_client : (req : ReqId) (bytes : List ℕ) → said_from (nodes.Client (record { 0 = 1 })) (bodies.Push req bytes) ≡ None
nothing_else_is_heard_of_a_client req bytes = refl

nothing_is_heard_at_a_tick : (moment : Moment) → heard_in (Ticks moment) ≡ None
nothing_is_heard_at_a_tick moment = refl
