-- What each event of a steady master, and each run, does for its calls.
use Rattle.std.specs.Prelude.{[], ◌∷◌, ◌≡◌, List, None, Some, slice_get, take, ℕ}
use Rattle.std.specs.List.{AllByRecursion}
use Rattle.gs_base.specs.declared.config.Config.{Config}
use Rattle.gs_base.specs.declared.numbers.Moment.{Moment}
use Rattle.gs_base.specs.declared.numbers.ReqId.{ReqId}
use Rattle.gs_msg.specs.declared.call.Call.{Call}
use Rattle.gs_msg.specs.declared.message.Message.{Message}
use Rattle.gs_laws_master.specs.Standing.{Event, IsNamed, Ticks, turn_of}
use Rattle.gs_laws_master.specs.Written.{AreHeardIn, IsHeardIn, IsSteady}
use Rattle.gs_laws_moves.specs.moves.Laws.{heard_in, met_in}
use Rattle.gs_laws_moves.specs.moves.Locations.{IsToldOnlyIf}
use Rattle.gs_master_record.specs.Plain.{PlainEntry}
use Rattle.gs_laws_moves.specs.moves.Guards.{Heard}
use Rattle.gs_master_spec.specs.Handling.{granted, pressed, proposals}
use Rattle.gs_master_spec.specs.State.{State, Turn, and_then, for_each}
use Rattle.gs_laws_lift.specs.calls.Recorded.{IsRecordedFor}
use Rattle.gs_laws_lift.specs.calls.Told.{WasToldFor}
use Rattle.gs_laws_lift.specs.calls.Waits.{AreAskedFor, HearsOneOf}

-- what a turn tells, records and leaves waiting is for the call that is heard in it, or for one that was heard before
pub record IsAskedTurn (all : List (ReqId × Call)) (config : Config) (heard : Heard) (s : State) (t : Turn) : Type 0 where
  pub waits : AreAskedFor all t.after
  pub sent : AllByRecursion (λ (m : Message). IsToldOnlyIf (WasToldFor all config heard s t) m.body) t.sent
  pub records : AllByRecursion (IsRecordedFor all config heard s t) t.records

abbrev pub IsAskedEvent : List (ReqId × Call) → Config → State → Event → Type 0
IsAskedEvent all config s event = IsAskedTurn all config (heard_in event) (met_in s event) (turn_of config s event)

-- This holds of each event of a steady master whose calls wait as they were heard.
abbrev pub EventsAreAskedFor : Type 0
EventsAreAskedFor = (all : List (ReqId × Call)) (config : Config) (s : State) (event : Event) → IsNamed event → IsHeardIn s event → IsSteady s → HearsOneOf all (heard_in event) → AreAskedFor all s → IsAskedEvent all config s event

-- It holds of a tick also where memory is wanting for the checkpoint that is due: then the tick is done without it.
abbrev pub StepsAreAskedFor : Type 0
StepsAreAskedFor = (all : List (ReqId × Call)) (config : Config) (s : State) (moment : Moment) → IsSteady s → AreAskedFor all s → IsAskedTurn all config None s (and_then (for_each s (proposals s) (pressed moment)) granted)

-- A disk fails at a record of a turn. The records before it are for their calls, and so is the one in doubt.
pub record IsAskedCut (all : List (ReqId × Call)) (config : Config) (heard : Heard) (s : State) (t : Turn) (place : ℕ) : Type 0 where
  pub stand : AllByRecursion (IsRecordedFor all config heard s t) (take place t.records)
  pub doubt : (entry : PlainEntry) → slice_get t.records place ≡ Some entry → IsRecordedFor all config heard s t entry

abbrev pub CutsAreAskedFor : Type 0
CutsAreAskedFor = (all : List (ReqId × Call)) (config : Config) (heard : Heard) (s : State) (t : Turn) (place : ℕ) → IsAskedTurn all config heard s t → IsAskedCut all config heard s t place

-- each event hears one of these calls, if it hears a call
abbrev pub EachHears : List (ReqId × Call) → List Event → Type 0
EachHears all events = AllByRecursion (λ event. HearsOneOf all (heard_in event)) events

-- each event of a run is as said
abbrev pub IsAskedRun : List (ReqId × Call) → Config → State → List Event → Type 0
IsAskedRun all config s [] = Unit {0}
IsAskedRun all config s (event ∷ events) = IsAskedEvent all config s event × IsAskedRun all config (turn_of config s event).after events

abbrev pub RunsAreAskedFor : Type 0
RunsAreAskedFor = (all : List (ReqId × Call)) (config : Config) (s : State) (events : List Event) → AllByRecursion IsNamed events → AreHeardIn config s events → IsSteady s → EachHears all events → AreAskedFor all s → IsAskedRun all config s events

-- ---- examples

a_tick_hears_none : (moment : Moment) → HearsOneOf [] (heard_in (Ticks moment))
a_tick_hears_none moment from req call is = absurd (never is)
  where
    never : {A : Type 0} {a : A} → None ≡ Some a → ⊥
    never h = absurd (cc)
